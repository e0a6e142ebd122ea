-- The names of the circuit: lawful, short and distinct.
use Rattle.std.proofs.Common.{◌≡◌, ℕ, suc, ◌+◌, ◌%◌, ◌^◌, ◌<◌, ◌≤◌, ◌⊎◌, inl, inr, Bool, true, false, cond, eqb, List, [], ◌∷◌, ◌++◌, drop, get_or, replicate, Some, None, Option, bytes_eq, refl, sym, ◌∙◌, ap, subst, arith}
use Rattle.std.specs.Prelude.{All, unwrap_or, option_to_list}
use Rattle.std.specs.List.{AllByRecursion}
use Rattle.std.specs.Fmt.{decimal}
use Rattle.std.specs.Str.Parse.{digits_value}
use Rattle.std.proofs.lemmas.Fmt.{decimal_by_steps, decimal_is_IsNumeral}
use Rattle.std.proofs.lemmas.Bool.{eqb-true, cases_lt, eq-eqb}
use Rattle.std.proofs.lemmas.List.{append_cancel_left}
use Rattle.std.proofs.lemmas.List.Elements.{All-nil, All-cons, All-push}
use Rattle.tm_parts.specs.Runs.{longest_run}
use Rattle.tm_parts.proofs.Measures.{run_within}
use Rattle.aiger_read.specs.Names.{percent, run_in, made_name}
use Rattle.aiger_read.proofs.TallyLemmas.{tally, same_name, tally-append, StandOnce}

-- ---- digits and made names

pub decimal_digits : (n : ℕ) → n < 2 ^ 64 → All (λ b. (48 ≤ b) × (b ≤ 57)) (decimal n)
decimal_digits n small =
    decimal_by_steps (λ m ds. All (λ b. (48 ≤ b) × (b ≤ 57)) ds)
    (λ m less. All-cons (λ b. (48 ≤ b) × (b ≤ 57)) (48 + m) [] (omega arith, omega arith) (All-nil (λ b. (48 ≤ b) × (b ≤ 57))))
    (λ m ds more are. All-push (λ b. (48 ≤ b) × (b ≤ 57)) ds (48 + m % 10) are (omega arith, omega arith))
    n small

decimal_same : (m n : ℕ) → m < 2 ^ 64 → n < 2 ^ 64 → decimal m ≡ decimal n → m ≡ n
decimal_same m n small_m small_n same =
    sym (decimal_is_IsNumeral m small_m).1 ∙ (ap (λ ds. digits_value 10 ds) same ∙ (decimal_is_IsNumeral n small_n).1)

-- the joiner of so many bytes and one
abbrev pub joiner_of : ℕ → List ℕ
joiner_of g = replicate (suc g) percent

-- Made names with one joiner are the same only where letter and number are.
made_same : (g l k m n : ℕ) → m < 2 ^ 64 → n < 2 ^ 64 → made_name (joiner_of g) l m ≡ made_name (joiner_of g) k n → (l ≡ k) × (m ≡ n)
made_same g l k m n small_m small_n same =
    let letters : l ≡ k = ap (λ xs. get_or xs 0 0) same in
    let rests : joiner_of g ++ decimal m ≡ joiner_of g ++ decimal n = ap (drop 1) same in
    (letters, decimal_same m n small_m small_n (append_cancel_left (joiner_of g) (decimal m) (decimal n) rests))

-- A made name has a longer run than any name that is used.
made_run : (g l m : ℕ) → suc g ≤ longest_run percent (made_name (joiner_of g) l m)
made_run g l m = run_within percent (l ∷ []) (suc g) (decimal m)

-- ---- names of numbers, made where none is used

-- a number, and the name that is used
abbrev pub Numbered : Type 0
Numbered = ℕ × Option (List ℕ)

abbrev pub spelled : ℕ → ℕ → List Numbered → List (List ℕ)
spelled g letter [] = []
spelled g letter (x ∷ xs) = unwrap_or x.1 (made_name (joiner_of g) letter x.0) ∷ spelled g letter xs

abbrev pub names_in : List Numbered → List (List ℕ)
names_in [] = []
names_in (x ∷ xs) = option_to_list x.1 ++ names_in xs

abbrev pub times : ℕ → List Numbered → ℕ
times m [] = 0
times m (x ∷ xs) = cond (eqb m x.0) 1 0 + times m xs

-- The numbers stand once and are small, and the names that are used have runs up to so many.
pub record AreNumbered (g : ℕ) (xs : List Numbered) : Type 0 where
  pub once : (m : ℕ) → times m xs ≤ 1
  pub small : AllByRecursion (λ x. x.0 < 2 ^ 32) xs
  pub runs : AllByRecursion (λ x. run_in x.1 ≤ g) xs

-- a name of a short run is none that is made
short_tally : (g letter : ℕ) (n : List ℕ) (xs : List Numbered) → longest_run percent n ≤ g → tally n (spelled g letter xs) ≤ tally n (names_in xs)
short_tally g letter n [] short = omega arith
short_tally g letter n ((m, None) ∷ xs) short = by_test (bytes_eq n (made_name (joiner_of g) letter m)) refl (short_tally g letter n xs short)
  where
    by_test : (b : Bool) → bytes_eq n (made_name (joiner_of g) letter m) ≡ b → tally n (spelled g letter xs) ≤ tally n (names_in xs) → cond b 1 0 + tally n (spelled g letter xs) ≤ tally n (names_in xs)
    by_test true e ih =
        let long : suc g ≤ longest_run percent n = subst (λ y. suc g ≤ longest_run percent y) (sym (same_name n (made_name (joiner_of g) letter m) e)) (made_run g letter m) in
        absurd (omega (arith, long, short))
    by_test false e ih = omega (arith, ih)
short_tally g letter n ((m, Some name) ∷ xs) short =
    let ih = short_tally g letter n xs short in
    omega (arith, ih)

-- a name of a long run stands there only as the one made of a number
long_found : (g letter : ℕ) (n : List ℕ) (xs : List Numbered) → g < longest_run percent n → AllByRecursion (λ x. run_in x.1 ≤ g) xs → AllByRecursion (λ x. x.0 < 2 ^ 32) xs
    → (tally n (spelled g letter xs) ≡ 0) ⊎ ((m : ℕ) × (m < 2 ^ 32) × (n ≡ made_name (joiner_of g) letter m))
long_found g letter n [] long runs small = inl refl
long_found g letter n ((m, None) ∷ xs) long runs small = by_test (bytes_eq n (made_name (joiner_of g) letter m)) refl (long_found g letter n xs long runs.1 small.1)
  where
    by_test : (b : Bool) → bytes_eq n (made_name (joiner_of g) letter m) ≡ b → (tally n (spelled g letter xs) ≡ 0) ⊎ ((m : ℕ) × (m < 2 ^ 32) × (n ≡ made_name (joiner_of g) letter m))
        → (cond b 1 0 + tally n (spelled g letter xs) ≡ 0) ⊎ ((m : ℕ) × (m < 2 ^ 32) × (n ≡ made_name (joiner_of g) letter m))
    by_test true e rest = inr (m, small.0, same_name n (made_name (joiner_of g) letter m) e)
    by_test false e (inl none) = inl (omega (arith, none))
    by_test false e (inr found) = inr found
long_found g letter n ((m, Some name) ∷ xs) long runs small = by_test (bytes_eq n name) refl (long_found g letter n xs long runs.1 small.1)
  where
    by_test : (b : Bool) → bytes_eq n name ≡ b → (tally n (spelled g letter xs) ≡ 0) ⊎ ((m : ℕ) × (m < 2 ^ 32) × (n ≡ made_name (joiner_of g) letter m))
        → (cond b 1 0 + tally n (spelled g letter xs) ≡ 0) ⊎ ((m : ℕ) × (m < 2 ^ 32) × (n ≡ made_name (joiner_of g) letter m))
    by_test true e rest =
        let short : longest_run percent n ≤ g = subst (λ y. longest_run percent y ≤ g) (sym (same_name n name e)) runs.0 in
        absurd (omega (arith, short, long))
    by_test false e (inl none) = inl (omega (arith, none))
    by_test false e (inr found) = inr found

-- and then as often as the number
long_tally : (g letter m : ℕ) (xs : List Numbered) → m < 2 ^ 32 → AllByRecursion (λ x. run_in x.1 ≤ g) xs → AllByRecursion (λ x. x.0 < 2 ^ 32) xs
    → tally (made_name (joiner_of g) letter m) (spelled g letter xs) ≤ times m xs
long_tally g letter m [] fits runs small = omega arith
long_tally g letter m ((k, None) ∷ xs) fits runs small =
    by_test (bytes_eq (made_name (joiner_of g) letter m) (made_name (joiner_of g) letter k)) refl (long_tally g letter m xs fits runs.1 small.1)
  where
    by_test : (b : Bool) → bytes_eq (made_name (joiner_of g) letter m) (made_name (joiner_of g) letter k) ≡ b → tally (made_name (joiner_of g) letter m) (spelled g letter xs) ≤ times m xs
        → cond b 1 0 + tally (made_name (joiner_of g) letter m) (spelled g letter xs) ≤ cond (eqb m k) 1 0 + times m xs
    by_test true e ih =
        let less : k < 2 ^ 32 = small.0 in
        let same : m ≡ k = (made_same g letter letter m k (omega arith) (omega arith) (same_name (made_name (joiner_of g) letter m) (made_name (joiner_of g) letter k) e)).1 in
        let one : ◌≡◌ {A = ℕ} (cond (eqb m k) 1 0) 1 = ap (λ b. cond b 1 0) (eq-eqb m k same) in
        omega (arith, ih, one)
    by_test false e ih = omega (arith, ih)
long_tally g letter m ((k, Some name) ∷ xs) fits runs small =
    by_test (bytes_eq (made_name (joiner_of g) letter m) name) refl (long_tally g letter m xs fits runs.1 small.1)
  where
    by_test : (b : Bool) → bytes_eq (made_name (joiner_of g) letter m) name ≡ b → tally (made_name (joiner_of g) letter m) (spelled g letter xs) ≤ times m xs
        → cond b 1 0 + tally (made_name (joiner_of g) letter m) (spelled g letter xs) ≤ cond (eqb m k) 1 0 + times m xs
    by_test true e ih =
        let short : longest_run percent (made_name (joiner_of g) letter m) ≤ g = subst (λ y. longest_run percent y ≤ g) (sym (same_name (made_name (joiner_of g) letter m) name e)) runs.0 in
        let long = made_run g letter m in
        absurd (omega (arith, short, long))
    by_test false e ih = omega (arith, ih)

abbrev marked : List ℕ → ℕ → ℕ
marked n letter = cond (eqb (get_or n 0 0) letter) 1 0

-- a name of a long run stands at most once, and only among those of its first letter
by_letter : (g letter : ℕ) (n : List ℕ) (xs : List Numbered) → AreNumbered g xs → g < longest_run percent n → tally n (spelled g letter xs) ≤ marked n letter
by_letter g letter n xs are long =
    elim (long_found g letter n xs long are.runs are.small) [
      | inl none ↦ omega (arith, none)
      | inr (m, fits, same) ↦
          let most : tally n (spelled g letter xs) ≤ times m xs = subst (λ y. tally y (spelled g letter xs) ≤ times m xs) (sym same) (long_tally g letter m xs fits are.runs are.small) in
          let one = are.once m in
          let first : ◌≡◌ {A = ℕ} (marked n letter) 1 = ap (λ b. cond b 1 0) (eq-eqb (get_or n 0 0) letter (ap (λ y. get_or y 0 0) same)) in
          omega (arith, most, one, first)
    ]

apart : (b l k : ℕ) → (l ≡ k → ⊥) → cond (eqb b l) 1 0 + cond (eqb b k) 1 0 ≤ 1
apart b l k other = by_test (eqb b l) (eqb b k) refl refl
  where
    by_test : (p q : Bool) → eqb b l ≡ p → eqb b k ≡ q → cond p 1 0 + cond q 1 0 ≤ 1
    by_test true true e f = absurd (other (sym (eqb-true b l e) ∙ eqb-true b k f))
    by_test true false e f = omega arith
    by_test false true e f = omega arith
    by_test false false e f = omega arith

-- five letters
five : (b : ℕ) → cond (eqb b 105) 1 0 + cond (eqb b 108) 1 0 + cond (eqb b 97) 1 0 + cond (eqb b 120) 1 0 + cond (eqb b 111) 1 0 ≤ 1
five b =
    let a1 = apart b 105 108 (λ e. omega arith) in
    let a2 = apart b 105 97 (λ e. omega arith) in
    let a3 = apart b 105 120 (λ e. omega arith) in
    let a4 = apart b 105 111 (λ e. omega arith) in
    let a5 = apart b 108 97 (λ e. omega arith) in
    let a6 = apart b 108 120 (λ e. omega arith) in
    let a7 = apart b 108 111 (λ e. omega arith) in
    let a8 = apart b 97 120 (λ e. omega arith) in
    let a9 = apart b 97 111 (λ e. omega arith) in
    let a10 = apart b 120 111 (λ e. omega arith) in
    omega (arith, a1, a2, a3, a4, a5, a6, a7, a8, a9, a10)

-- Names of five kinds, of which those used stand once, stand once.
pub five_once : (g : ℕ) (i l a x o : List Numbered) → AreNumbered g i → AreNumbered g l → AreNumbered g a → AreNumbered g x → AreNumbered g o
    → ((n : List ℕ) → tally n (names_in i) + tally n (names_in l) + tally n (names_in a) + tally n (names_in x) + tally n (names_in o) ≤ 1)
    → StandOnce ((spelled g 105 i ++ spelled g 108 l) ++ ((spelled g 97 a ++ spelled g 120 x) ++ spelled g 111 o))
five_once g i l a x o ai al aa ax ao used_once = record { once = each }
  where
    each : (n : List ℕ) → tally n ((spelled g 105 i ++ spelled g 108 l) ++ ((spelled g 97 a ++ spelled g 120 x) ++ spelled g 111 o)) ≤ 1
    each n =
        let s1 = tally-append n (spelled g 105 i ++ spelled g 108 l) ((spelled g 97 a ++ spelled g 120 x) ++ spelled g 111 o) in
        let s2 = tally-append n (spelled g 105 i) (spelled g 108 l) in
        let s3 = tally-append n (spelled g 97 a ++ spelled g 120 x) (spelled g 111 o) in
        let s4 = tally-append n (spelled g 97 a) (spelled g 120 x) in
        elim (cases_lt g (longest_run percent n)) [
          | inl long ↦
              let e1 = by_letter g 105 n i ai long in
              let e2 = by_letter g 108 n l al long in
              let e3 = by_letter g 97 n a aa long in
              let e4 = by_letter g 120 n x ax long in
              let e5 = by_letter g 111 n o ao long in
              let all = five (get_or n 0 0) in
              omega (arith, s1, s2, s3, s4, e1, e2, e3, e4, e5, all)
          | inr short ↦
              let e1 = short_tally g 105 n i short in
              let e2 = short_tally g 108 n l short in
              let e3 = short_tally g 97 n a short in
              let e4 = short_tally g 120 n x short in
              let e5 = short_tally g 111 n o short in
              let all = used_once n in
              omega (arith, s1, s2, s3, s4, e1, e2, e3, e4, e5, all)
        ]
