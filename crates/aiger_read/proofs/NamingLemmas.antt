-- The names that are used and those that are made, as names of numbers.
use Rattle.std.proofs.Common.{◌≡◌, ℕ, zero, suc, ◌+◌, ◌^◌, ◌<◌, ◌≤◌, Bool, true, false, not, cond, eqb, ltb, leb, ◌&&◌, List, [], ◌∷◌, ◌++◌, map, length, take, drop, Some, None, Option, bytes_eq, refl, sym, ◌∙◌, ap, subst, append_assoc, append-nil, length-append, arith}
use Rattle.std.specs.Prelude.{unwrap_or, option_to_list, IfSome}
use Rattle.std.specs.List.{AllByRecursion, list_any, list_all, flat_map}
use Rattle.std.specs.Fmt.{decimal}
use Rattle.std.proofs.lemmas.Fmt.{length-decimal-le}
use Rattle.std.proofs.lemmas.Bool.{and_parts, not-true, ltb-true, leb-true, eqb-true, ne_eqb, both_ways}
use Rattle.std.proofs.lemmas.List.{length-replicate, take-append-drop, drop-drop}
use Rattle.std.proofs.lemmas.List.Elements.{All-cons, All-append, All-replicate, All-weaker, All-from_recursion}
use Rattle.std.proofs.lemmas.Grind.{flat_map-append}
use Rattle.tm_circuit.specs.Plain.{greatest}
use Rattle.tm_circuit.specs.Sound as sound
use Rattle.tm_parts.specs.Runs.{longest_run}
use Rattle.aiger_read.specs.declared.statement.LatchLine.{LatchLine}
use Rattle.aiger_read.specs.Names.{percent, is_name_byte, is_usable, used_one, used_after, used, run_in, made_name, names_from}
use Rattle.aiger_read.specs.Circuit.{is_made, made_names}
use Rattle.aiger_read.specs.Making.{times_in}
use Rattle.aiger_read.proofs.TallyLemmas.{tally, same_name, none-tally, tally-append}
use Rattle.aiger_read.proofs.NameLemmas.{Numbered, spelled, names_in, times, joiner_of, AreNumbered, decimal_digits}

-- ---- names by their places

abbrev pub numbered : ℕ → List (Option (List ℕ)) → List Numbered
numbered k [] = []
numbered k (o ∷ os) = (k, o) ∷ numbered (suc k) os

abbrev pub somes : List (Option (List ℕ)) → List (List ℕ)
somes os = flat_map option_to_list os

pub from-spelled : (g letter k : ℕ) (os : List (Option (List ℕ))) → names_from (joiner_of g) letter k os ≡ spelled g letter (numbered k os)
from-spelled g letter k [] = refl
from-spelled g letter k (o ∷ os) = ap (λ xs. unwrap_or o (made_name (joiner_of g) letter k) ∷ xs) (from-spelled g letter (suc k) os)

pub names-numbered : (k : ℕ) (os : List (Option (List ℕ))) → names_in (numbered k os) ≡ somes os
names-numbered k [] = refl
names-numbered k (o ∷ os) = ap (λ xs. option_to_list o ++ xs) (names-numbered (suc k) os)

times-early : (m k : ℕ) (os : List (Option (List ℕ))) → m < k → times m (numbered k os) ≡ 0
times-early m k [] less = refl
times-early m k (o ∷ os) less =
    let e : ◌≡◌ {A = ℕ} (cond (eqb m k) 1 0) 0 = ap (λ b. cond b 1 0) (ne_eqb m k (λ same. omega arith)) in
    let ih = times-early m (suc k) os (omega arith) in
    omega (arith, e, ih)

times-numbered : (m k : ℕ) (os : List (Option (List ℕ))) → times m (numbered k os) ≤ 1
times-numbered m k [] = omega arith
times-numbered m k (o ∷ os) = by_test (eqb m k) refl (times-numbered m (suc k) os)
  where
    by_test : (b : Bool) → eqb m k ≡ b → times m (numbered (suc k) os) ≤ 1 → cond b 1 0 + times m (numbered (suc k) os) ≤ 1
    by_test true e ih =
        let same : m ≡ k = eqb-true m k e in
        let none : times m (numbered (suc k) os) ≡ 0 = times-early m (suc k) os (omega arith) in
        omega (arith, none)
    by_test false e ih = omega (arith, ih)

pub small-numbered : (k : ℕ) (os : List (Option (List ℕ))) → k + length os ≤ 2 ^ 32 → AllByRecursion (λ x. x.0 < 2 ^ 32) (numbered k os)
small-numbered k [] fits = tt
small-numbered k (o ∷ os) fits = (omega (arith, fits), small-numbered (suc k) os (omega (arith, fits)))

runs-numbered : (g k : ℕ) (os : List (Option (List ℕ))) → AllByRecursion (λ o. run_in o ≤ g) os → AllByRecursion (λ x. run_in x.1 ≤ g) (numbered k os)
runs-numbered g k [] runs = tt
runs-numbered g k (o ∷ os) runs = (runs.0, runs-numbered g (suc k) os runs.1)

pub are-numbered : (g : ℕ) (os : List (Option (List ℕ))) → length os < 2 ^ 32 → AllByRecursion (λ o. run_in o ≤ g) os → AreNumbered g (numbered 0 os)
are-numbered g os few runs = record { once = λ m. times-numbered m 0 os; small = small-numbered 0 os (omega (arith, few)); runs = runs-numbered g 0 os runs }

-- ---- names of ands

abbrev pub numbers : List ℕ → List Numbered
numbers [] = []
numbers (v ∷ vs) = (v, None) ∷ numbers vs

pub map-spelled : (g letter : ℕ) (vs : List ℕ) → map (λ v. made_name (joiner_of g) letter v) vs ≡ spelled g letter (numbers vs)
map-spelled g letter [] = refl
map-spelled g letter (v ∷ vs) = ap (λ xs. made_name (joiner_of g) letter v ∷ xs) (map-spelled g letter vs)

pub names-numbers : (vs : List ℕ) → names_in (numbers vs) ≡ []
names-numbers [] = refl
names-numbers (v ∷ vs) = names-numbers vs

times-numbers : (m : ℕ) (vs : List ℕ) → times m (numbers vs) ≡ times_in m vs
times-numbers m [] = refl
times-numbers m (v ∷ vs) = ap (λ n. cond (eqb m v) 1 0 + n) (times-numbers m vs)

pub small-numbers : (vs : List ℕ) → AllByRecursion (λ v. v < 2 ^ 32) vs → AllByRecursion (λ x. x.0 < 2 ^ 32) (numbers vs)
small-numbers [] small = tt
small-numbers (v ∷ vs) small = (small.0, small-numbers vs small.1)

runs-numbers : (g : ℕ) (vs : List ℕ) → AllByRecursion (λ x. run_in x.1 ≤ g) (numbers vs)
runs-numbers g [] = tt
runs-numbers g (v ∷ vs) = (omega arith, runs-numbers g vs)

pub are-numbers : (g : ℕ) (vs : List ℕ) → AllByRecursion (λ v. v < 2 ^ 32) vs → ((m : ℕ) → times_in m vs ≤ 1) → AreNumbered g (numbers vs)
are-numbers g vs small once = record {
  once = λ m. let e = times-numbers m vs in let o = once m in omega (arith, e, o);
  small = small-numbers vs small;
  runs = runs-numbers g vs;
}

-- ---- names of gates made for latches

abbrev pub made_places : ℕ → List LatchLine → List ℕ
made_places k [] = []
made_places k (l ∷ latches) = cond (is_made l.next) (k ∷ made_places (suc k) latches) (made_places (suc k) latches)

pub made-spelled : (g k : ℕ) (latches : List LatchLine) → made_names (joiner_of g) k latches ≡ spelled g 120 (numbers (made_places k latches))
made-spelled g k [] = refl
made-spelled g k (l ∷ latches) = by_test (is_made l.next) (made-spelled g (suc k) latches)
  where
    by_test : (b : Bool) → made_names (joiner_of g) (suc k) latches ≡ spelled g 120 (numbers (made_places (suc k) latches))
        → cond b (made_name (joiner_of g) 120 k ∷ made_names (joiner_of g) (suc k) latches) (made_names (joiner_of g) (suc k) latches) ≡ spelled g 120 (numbers (cond b (k ∷ made_places (suc k) latches) (made_places (suc k) latches)))
    by_test true ih = ap (λ xs. made_name (joiner_of g) 120 k ∷ xs) ih
    by_test false ih = ih

places-early : (m k : ℕ) (latches : List LatchLine) → m < k → times_in m (made_places k latches) ≡ 0
places-early m k [] less = refl
places-early m k (l ∷ latches) less = by_test (is_made l.next) (places-early m (suc k) latches (omega arith))
  where
    by_test : (b : Bool) → times_in m (made_places (suc k) latches) ≡ 0 → times_in m (cond b (k ∷ made_places (suc k) latches) (made_places (suc k) latches)) ≡ 0
    by_test true ih = let e : ◌≡◌ {A = ℕ} (cond (eqb m k) 1 0) 0 = ap (λ b. cond b 1 0) (ne_eqb m k (λ same. omega arith)) in omega (arith, e, ih)
    by_test false ih = ih

pub places-once : (m k : ℕ) (latches : List LatchLine) → times_in m (made_places k latches) ≤ 1
places-once m k [] = omega arith
places-once m k (l ∷ latches) = by_test (is_made l.next) (eqb m k) refl (places-once m (suc k) latches)
  where
    by_test : (b c : Bool) → eqb m k ≡ c → times_in m (made_places (suc k) latches) ≤ 1 → times_in m (cond b (k ∷ made_places (suc k) latches) (made_places (suc k) latches)) ≤ 1
    by_test true true e ih =
        let same : m ≡ k = eqb-true m k e in
        let none : times_in m (made_places (suc k) latches) ≡ 0 = places-early m (suc k) latches (omega arith) in
        let one : ◌≡◌ {A = ℕ} (cond (eqb m k) 1 0) 1 = ap (λ b. cond b 1 0) e in
        omega (arith, none, one)
    by_test true false e ih = let zero_here : ◌≡◌ {A = ℕ} (cond (eqb m k) 1 0) 0 = ap (λ b. cond b 1 0) e in omega (arith, ih, zero_here)
    by_test false c e ih = ih

pub places-small : (k : ℕ) (latches : List LatchLine) → k + length latches ≤ 2 ^ 32 → AllByRecursion (λ v. v < 2 ^ 32) (made_places k latches)
places-small k [] fits = tt
places-small k (l ∷ latches) fits = by_test (is_made l.next) (places-small (suc k) latches (omega (arith, fits)))
  where
    by_test : (b : Bool) → AllByRecursion (λ v. v < 2 ^ 32) (made_places (suc k) latches) → AllByRecursion (λ v. v < 2 ^ 32) (cond b (k ∷ made_places (suc k) latches) (made_places (suc k) latches))
    by_test true ih = (omega (arith, fits), ih)
    by_test false ih = ih

-- ---- the names that are used

-- Each name that is used can be used.
abbrev pub AreUsable : ℕ → List (Option (List ℕ)) → Type 0
AreUsable most os = AllByRecursion (λ o. IfSome o (λ n. is_usable most n ≡ true)) os

one_usable : (most : ℕ) (before : List (List ℕ)) (o : Option (List ℕ)) → IfSome (used_one most before o) (λ n. is_usable most n ≡ true)
one_usable most before None = tt
one_usable most before (Some name) = by_test (is_usable most name) (not (list_any (bytes_eq name) before)) refl
  where
    by_test : (a b : Bool) → is_usable most name ≡ a → IfSome (cond (a && b) (Some name) None) (λ n. is_usable most n ≡ true)
    by_test true true e = e
    by_test true false e = tt
    by_test false b e = tt

after_usable : (most : ℕ) (before : List (List ℕ)) (os : List (Option (List ℕ))) → AreUsable most (used_after most before os)
after_usable most before [] = tt
after_usable most before (o ∷ os) = (one_usable most before o, after_usable most (before ++ option_to_list (used_one most before o)) os)

pub used_usable : (most : ℕ) (os : List (Option (List ℕ))) → AreUsable most (used most os)
unfolding used
used_usable most os = after_usable most [] os

one_once : (most : ℕ) (before : List (List ℕ)) (o : Option (List ℕ)) → ((n : List ℕ) → tally n before ≤ 1) → (n : List ℕ) → tally n (before ++ option_to_list (used_one most before o)) ≤ 1
one_once most before None once n = let e : tally n (before ++ []) ≡ tally n before = ap (tally n) (append-nil before) in let o = once n in omega (arith, e, o)
one_once most before (Some name) once n = by_test (is_usable most name) (list_any (bytes_eq name) before) refl
  where
    here : (c : Bool) → bytes_eq n name ≡ c → list_any (bytes_eq name) before ≡ false → tally n (before ++ name ∷ []) ≤ 1
    here true e fresh =
        let none : tally n before ≡ 0 = subst (λ y. tally y before ≡ 0) (sym (same_name n name e)) (none-tally name before fresh) in
        let all : tally n (before ++ name ∷ []) ≡ tally n before + (cond (bytes_eq n name) 1 0 + 0) = tally-append n before (name ∷ []) in
        let one : ◌≡◌ {A = ℕ} (cond (bytes_eq n name) 1 0) 1 = ap (λ b. cond b 1 0) e in
        omega (arith, none, all, one)
    here false e fresh =
        let all : tally n (before ++ name ∷ []) ≡ tally n before + (cond (bytes_eq n name) 1 0 + 0) = tally-append n before (name ∷ []) in
        let none : ◌≡◌ {A = ℕ} (cond (bytes_eq n name) 1 0) 0 = ap (λ b. cond b 1 0) e in
        let o = once n in
        omega (arith, all, none, o)

    as_before : tally n (before ++ []) ≤ 1
    as_before = let e : tally n (before ++ []) ≡ tally n before = ap (tally n) (append-nil before) in let o = once n in omega (arith, e, o)

    by_test : (a b : Bool) → list_any (bytes_eq name) before ≡ b → tally n (before ++ option_to_list (cond (a && not b) (Some name) None)) ≤ 1
    by_test true false e = here (bytes_eq n name) refl e
    by_test true true e = as_before
    by_test false b e = as_before

after_once : (most : ℕ) (before : List (List ℕ)) (os : List (Option (List ℕ))) → ((n : List ℕ) → tally n before ≤ 1) → (n : List ℕ) → tally n (before ++ somes (used_after most before os)) ≤ 1
after_once most before [] once n = let e : tally n (before ++ []) ≡ tally n before = ap (tally n) (append-nil before) in let o = once n in omega (arith, e, o)
after_once most before (o ∷ os) once n =
    let more : List (List ℕ) = before ++ option_to_list (used_one most before o) in
    let ih : tally n ((before ++ option_to_list (used_one most before o)) ++ somes (used_after most (before ++ option_to_list (used_one most before o)) os)) ≤ 1
    = after_once most (before ++ option_to_list (used_one most before o)) os (one_once most before o once) n in
    subst (λ xs. tally n xs ≤ 1) (append_assoc before (option_to_list (used_one most before o)) (somes (used_after most (before ++ option_to_list (used_one most before o)) os))) ih

-- The names that are used stand once.
pub used_once : (most : ℕ) (os : List (Option (List ℕ))) (n : List ℕ) → tally n (somes (used most os)) ≤ 1
unfolding used
used_once most os n = after_once most [] os (λ m. omega arith) n

after_length : (most : ℕ) (before : List (List ℕ)) (os : List (Option (List ℕ))) → length (used_after most before os) ≡ length os
after_length most before [] = refl
after_length most before (o ∷ os) = ap suc (after_length most (before ++ option_to_list (used_one most before o)) os)

pub used-length : (most : ℕ) (os : List (Option (List ℕ))) → length (used most os) ≡ length os
unfolding used
used-length most os = after_length most [] os

-- ---- what a usable name has

pub record HasUse (most : ℕ) (name : List ℕ) : Type 0 where
  pub some : 0 < length name
  pub short : length name ≤ most
  pub bytes : list_all is_name_byte name ≡ true
  pub run : longest_run percent name ≤ 16

pub usable-parts : (most : ℕ) (name : List ℕ) → is_usable most name ≡ true → HasUse most name
unfolding is_usable
usable-parts most name is =
    let last = and_parts (ltb 0 (length name) && leb (length name) most && list_all is_name_byte name) (leb (longest_run percent name) 16) is in
    let third = and_parts (ltb 0 (length name) && leb (length name) most) (list_all is_name_byte name) last.0 in
    let second = and_parts (ltb 0 (length name)) (leb (length name) most) third.0 in
    record { some = ltb-true 0 (length name) second.0; short = leb-true (length name) most second.1; bytes = third.1; run = leb-true (longest_run percent name) 16 last.1 }

run-usable : (most : ℕ) (o : Option (List ℕ)) → IfSome o (λ n. is_usable most n ≡ true) → run_in o ≤ 16
run-usable most None is = omega arith
run-usable most (Some name) is = (usable-parts most name is).run

-- The joiner is short.
pub greatest-usable : (most : ℕ) (os : List (Option (List ℕ))) → AreUsable most os → greatest (map run_in os) ≤ 16
greatest-usable most [] are = omega arith
greatest-usable most (o ∷ os) are =
    let here = run-usable most o are.0 in
    let rest = greatest-usable most os are.1 in
    omega (arith, here, rest)

-- no name has a longer run than the longest
pub runs-greatest : (g : ℕ) (os : List (Option (List ℕ))) → greatest (map run_in os) ≤ g → AllByRecursion (λ o. run_in o ≤ g) os
runs-greatest g [] most = tt
runs-greatest g (o ∷ os) most = (omega (arith, most), runs-greatest g os (omega (arith, most)))

-- ---- parts of a list

pub all-take : {X : Type 0} (P : X → Type 0) (n : ℕ) (xs : List X) → AllByRecursion P xs → AllByRecursion P (take n xs)
all-take P zero xs all = tt
all-take P (suc n) [] all = tt
all-take P (suc n) (x ∷ xs) all = (all.0, all-take P n xs all.1)

pub all-drop : {X : Type 0} (P : X → Type 0) (n : ℕ) (xs : List X) → AllByRecursion P xs → AllByRecursion P (drop n xs)
all-drop P zero xs all = all
all-drop P (suc n) [] all = tt
all-drop P (suc n) (x ∷ xs) all = all-drop P n xs all.1

pub tally-parts : (n : List ℕ) (i o : ℕ) (os : List (Option (List ℕ)))
    → tally n (somes (take i os)) + tally n (somes (drop (i + o) os)) + tally n (somes (take o (drop i os))) ≡ tally n (somes os)
tally-parts n i o os =
    let one : tally n (somes (take i os)) + tally n (somes (drop i os)) ≡ tally n (somes os) =
    sym (tally-append n (somes (take i os)) (somes (drop i os))) ∙ ap (tally n) (sym (flat_map-append option_to_list (take i os) (drop i os)) ∙ ap somes (take-append-drop i os)) in
    let two : tally n (somes (take o (drop i os))) + tally n (somes (drop o (drop i os))) ≡ tally n (somes (drop i os)) =
    sym (tally-append n (somes (take o (drop i os))) (somes (drop o (drop i os)))) ∙ ap (tally n) (sym (flat_map-append option_to_list (take o (drop i os)) (drop o (drop i os))) ∙ ap somes (take-append-drop o (drop i os))) in
    let three : tally n (somes (drop o (drop i os))) ≡ tally n (somes (drop (i + o) os)) = ap (λ xs. tally n (somes xs)) (drop-drop o i os) in
    omega (arith, one, two, three)

-- ---- lawful names

name_byte : (b : ℕ) → is_name_byte b ≡ true → sound.IsNameByte b
name_byte b is =
    let last = and_parts (leb 33 b && leb b 126 && not (eqb b 35)) (not (eqb b 92)) is in
    let third = and_parts (leb 33 b && leb b 126) (not (eqb b 35)) last.0 in
    let second = and_parts (leb 33 b) (leb b 126) third.0 in
    (leb-true 33 b second.0, leb-true b 126 second.1, λ e. both_ways (eqb b 35) (not-true (eqb b 35) third.1) (ap (λ x. eqb x 35) e), λ e. both_ways (eqb b 92) (not-true (eqb b 92) last.1) (ap (λ x. eqb x 92) e))

name_bytes : (name : List ℕ) → list_all is_name_byte name ≡ true → AllByRecursion sound.IsNameByte name
name_bytes [] all = tt
name_bytes (b ∷ name) all = let parts = and_parts (is_name_byte b) (list_all is_name_byte name) all in (name_byte b parts.0, name_bytes name parts.1)

-- A name that can be used is lawful.
pub usable_lawful : (most : ℕ) (name : List ℕ) → most ≤ 1023 → is_usable most name ≡ true → sound.IsName name
usable_lawful most name few is =
    let has = usable-parts most name is in
    record { some = has.some; short = let s = has.short in omega (arith, s, few); lawful = All-from_recursion sound.IsNameByte name (name_bytes name has.bytes) }

digit_byte : (b : ℕ) → (48 ≤ b) × (b ≤ 57) → sound.IsNameByte b
digit_byte b is = (omega arith, omega arith, λ e. omega arith, λ e. omega arith)

-- A made name is short.
pub made_short : (g letter n : ℕ) → g ≤ 16 → n < 2 ^ 32 → length (made_name (joiner_of g) letter n) ≤ 28
made_short g letter n short small =
    let fits : n < 2 ^ 64 = omega arith in
    let digits : length (decimal n) ≤ 10 = length-decimal-le 10 n (omega arith) (omega arith) fits in
    let joiner = length-replicate (suc g) percent in
    let all : length (made_name (joiner_of g) letter n) ≡ length (letter ∷ joiner_of g) + length (decimal n) = length-append (letter ∷ joiner_of g) (decimal n) in
    omega (arith, all, joiner, digits)

-- A made name is lawful.
pub made_lawful : (g letter n : ℕ) → g ≤ 16 → sound.IsNameByte letter → n < 2 ^ 32 → sound.IsName (made_name (joiner_of g) letter n)
made_lawful g letter n short byte small =
    let fits : n < 2 ^ 64 = omega arith in
    let few = made_short g letter n short small in
    let all : length (made_name (joiner_of g) letter n) ≡ length (letter ∷ joiner_of g) + length (decimal n) = length-append (letter ∷ joiner_of g) (decimal n) in
    record {
      some = omega (arith, all);
      short = omega (arith, few);
      lawful = All-append sound.IsNameByte (letter ∷ joiner_of g) (decimal n)
          (All-cons sound.IsNameByte letter (joiner_of g) byte (All-replicate sound.IsNameByte (suc g) percent (omega arith, omega arith, λ e. omega arith, λ e. omega arith)))
          (All-weaker (λ b. (48 ≤ b) × (b ≤ 57)) sound.IsNameByte digit_byte (decimal n) (decimal_digits n fits));
    }

-- What holds of names that can be used and of made names holds of names of numbers.
pub spelled_all : (P : List ℕ → Type 0) (most g letter : ℕ) (xs : List Numbered) → ((m : ℕ) → m < 2 ^ 32 → P (made_name (joiner_of g) letter m))
    → ((n : List ℕ) → is_usable most n ≡ true → P n) → AllByRecursion (λ x. x.0 < 2 ^ 32) xs
    → AllByRecursion (λ x. IfSome x.1 (λ n. is_usable most n ≡ true)) xs → AllByRecursion P (spelled g letter xs)
spelled_all P most g letter [] made use_ small usable = tt
spelled_all P most g letter ((m, None) ∷ xs) made use_ small usable = (made m small.0, spelled_all P most g letter xs made use_ small.1 usable.1)
spelled_all P most g letter ((m, Some name) ∷ xs) made use_ small usable = (use_ name usable.0, spelled_all P most g letter xs made use_ small.1 usable.1)

pub usable-numbered : (most k : ℕ) (os : List (Option (List ℕ))) → AreUsable most os → AllByRecursion (λ x. IfSome x.1 (λ n. is_usable most n ≡ true)) (numbered k os)
usable-numbered most k [] are = tt
usable-numbered most k (o ∷ os) are = (are.0, usable-numbered most (suc k) os are.1)

pub usable-numbers : (most : ℕ) (vs : List ℕ) → AllByRecursion (λ x. IfSome x.1 (λ n. is_usable most n ≡ true)) (numbers vs)
usable-numbers most [] = tt
usable-numbers most (v ∷ vs) = (tt, usable-numbers most vs)
