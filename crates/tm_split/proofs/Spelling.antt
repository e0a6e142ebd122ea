-- The names of the subject circuit: lawful, short and distinct.
use Rattle.std.proofs.Common.{◌≡◌, ◌≢◌, ℕ, zero, suc, ◌+◌, ◌-◌, ◌%◌, ◌^◌, ◌<◌, ◌≤◌, ◌⊎◌, inl, inr, Bool, true, false, cond, ltb, List, [], ◌∷◌, ◌++◌, map, length, take, get_or, replicate, Some, None, Option, slice_get, refl, sym, ◌∙◌, ap, subst, append_assoc, length-append, arith}
use Rattle.std.specs.Prelude.{All, AllPairs, sum_by}
use Rattle.std.specs.Fmt.{decimal}
use Rattle.std.proofs.lemmas.Fmt.{decimal_by_steps, length-decimal-le, decimal_is_IsNumeral}
use Rattle.std.specs.Str.Parse.{digits_value}
use Rattle.std.proofs.lemmas.Bool.{cases_lt}
use Rattle.std.proofs.lemmas.List.{append_cancel_right, length-replicate, length-map, replicate_more, take_all, get_or_append_left, get_or_default, get_or_push, get_or-map}
use Rattle.std.proofs.lemmas.List.Elements.{All-nil, All-cons, All-append, All-replicate, All-push, All-weaker, All-get_or, All-head, All-tail}
use Rattle.std.proofs.lemmas.Option.{get_or_from_slice_get, slice_get_within}
use Rattle.tm_circuit.specs.declared.parts.Clock.{Clock}
use Rattle.tm_circuit.specs.Plain.{Plain, Drive, input, latch, gate, greatest}
use Rattle.tm_circuit.specs.Sound.{IsName, IsNameByte, clock_name, IsDistinctlyNamed}
use Rattle.tm_split.specs.declared.piece.Piece.{Piece}
use Rattle.tm_split.specs.Pieces.{is_empty, pieces_of}
use Rattle.tm_parts.specs.Names.{all_names, HasNamesWithin}
use Rattle.tm_parts.specs.Runs.{HasRunsWithin, longest_run, joiner_of}
use Rattle.tm_parts.specs.Fits.{plus}
use Rattle.tm_split.specs.Names.{tilde, piece_names}
use Rattle.tm_split.specs.Subject.{extra, first_number, names_for, in_places, names_at}
use Rattle.tm_split.proofs.Numbers.{length-names_for, length-in_places, some_pieces}
use Rattle.tm_parts.proofs.Measures.{run_within, greatest_runs, runs_of_short, runs_followed}
use Rattle.tm_split.proofs.Places.{IsAt, located, places_at, all_places, extra_within}
use Rattle.tm_split.proofs.Shapes.{all_by_test}

-- ---- digits

decimal_digits : (n : ℕ) → n < 2 ^ 64 → All (λ b. (48 ≤ b) × (b ≤ 57)) (decimal n)
decimal_digits n small =
    decimal_by_steps (λ m ds. All (λ b. (48 ≤ b) × (b ≤ 57)) ds)
    (λ m less. All-cons (λ b. (48 ≤ b) × (b ≤ 57)) (48 + m) [] (omega arith, omega arith) (All-nil (λ b. (48 ≤ b) × (b ≤ 57))))
    (λ m ds more are. All-push (λ b. (48 ≤ b) × (b ≤ 57)) ds (48 + m % 10) are (omega arith, omega arith))
    n small

decimal_same : (m n : ℕ) → m < 2 ^ 64 → n < 2 ^ 64 → decimal m ≡ decimal n → m ≡ n
decimal_same m n small_m small_n same =
    sym (decimal_is_IsNumeral m small_m).1 ∙ (ap (λ ds. digits_value 10 ds) same ∙ (decimal_is_IsNumeral n small_n).1)

-- ---- lawful and short names

-- A name that the mapper can take: lawful, short, and without a long run of `+`.
pub record IsFineName (name : List ℕ) : Type 0 where
  pub lawful : IsName name
  pub short : length name ≤ 517
  pub runs : HasRunsWithin plus 255 name

-- A joiner that fine names can have.
pub record IsFineJoiner (joiner : List ℕ) : Type 0 where
  pub lawful : All IsNameByte joiner
  pub few : length joiner ≤ 256
  pub others : All (λ b. b ≡ plus → ⊥) joiner

old_name_fine : (name : List ℕ) → IsName name → length name ≤ 255 → IsFineName name
old_name_fine name is short = record { lawful = is; short = omega arith; runs = runs_of_short plus 255 name short }

digit_byte : (b : ℕ) → (48 ≤ b) × (b ≤ 57) → IsNameByte b
digit_byte b is = (omega arith, omega arith, λ e. omega arith, λ e. omega arith)

pub tilde_byte : IsNameByte tilde
tilde_byte = (omega arith, omega arith, λ e. omega arith, λ e. omega arith)

no_plus : (n : ℕ) → n < 2 ^ 64 → All (λ b. b ≡ plus → ⊥) (decimal n)
no_plus n small = All-weaker (λ b. (48 ≤ b) × (b ≤ 57)) (λ b. b ≡ plus → ⊥) (λ b is e. omega arith) (decimal n) (decimal_digits n small)

new_name_fine : (name joiner : List ℕ) (n : ℕ) → IsName name → length name ≤ 255 → IsFineJoiner joiner
    → n < 10 ^ 6 → IsFineName ((name ++ joiner) ++ decimal n)
new_name_fine name joiner n is short joins small =
    let fits : n < 2 ^ 64 = omega arith in
    let digits : length (decimal n) ≤ 6 = length-decimal-le 6 n (omega arith) small fits in
    let first : length (name ++ joiner) ≡ length name + length joiner = length-append name joiner in
    let all : length ((name ++ joiner) ++ decimal n) ≡ length (name ++ joiner) + length (decimal n) = length-append (name ++ joiner) (decimal n) in
    let some : 0 < length name = is.some in
    let few : length joiner ≤ 256 = joins.few in
    let others : All (λ b. b ≡ plus → ⊥) (joiner ++ decimal n) = All-append (λ b. b ≡ plus → ⊥) joiner (decimal n) joins.others (no_plus n fits) in
    record {
      lawful = record {
        some = omega arith;
        short = omega arith;
        lawful = All-append IsNameByte (name ++ joiner) (decimal n) (All-append IsNameByte name joiner is.lawful joins.lawful) (All-weaker (λ b. (48 ≤ b) × (b ≤ 57)) IsNameByte digit_byte (decimal n) (decimal_digits n fits));
      };
      short = omega arith;
      runs = subst (λ (text : List ℕ). HasRunsWithin plus 255 text) (sym (append_assoc name joiner (decimal n))) (runs_followed plus 255 name (joiner ++ decimal n) short others);
    }

fine_by : (test : Bool) (name other : List ℕ) → IsFineName name → IsFineName other → IsFineName (cond test name other)
fine_by true name other is_name is_other = is_name
fine_by false name other is_name is_other = is_other

piece_names_fine : (name joiner : List ℕ) (n : ℕ) (pieces : List Piece) → IsName name → length name ≤ 255 → IsFineJoiner joiner
    → n + length pieces ≤ 10 ^ 6 → All IsFineName (piece_names name joiner n pieces)
piece_names_fine name joiner n [] is short joins small = All-nil IsFineName
piece_names_fine name joiner n (piece ∷ rest) is short joins small =
    All-cons IsFineName (cond (is_empty rest) name ((name ++ joiner) ++ decimal n)) (piece_names name joiner (suc n) rest)
    (fine_by (is_empty rest) name ((name ++ joiner) ++ decimal n) (old_name_fine name is short) (new_name_fine name joiner n is short joins (omega arith)))
    (piece_names_fine name joiner (suc n) rest is short joins (omega arith))

pub names_for_fine : (k : ℕ) (name joiner : List ℕ) (d : Drive) → IsName name → length name ≤ 255 → IsFineJoiner joiner
    → extra k d ≤ 100000 → All IsFineName (names_for k name joiner d)
names_for_fine k name joiner input is short joins small = All-cons IsFineName name [] (old_name_fine name is short) (All-nil IsFineName)
names_for_fine k name joiner (latch next init) is short joins small = All-cons IsFineName name [] (old_name_fine name is short) (All-nil IsFineName)
names_for_fine k name joiner (gate pins cover) is short joins small =
    all_by_test IsFineName (ltb k (length pins)) (piece_names name joiner 1 (pieces_of pins cover)) (name ∷ [])
    (λ wide.
    let more : extra k (gate pins cover) ≡ length (pieces_of pins cover) - 1 = ap (λ b. cond b (length (pieces_of pins cover) - 1) 0) wide in
    piece_names_fine name joiner 1 (pieces_of pins cover) is short joins (omega arith))
    (λ kept. All-cons IsFineName name [] (old_name_fine name is short) (All-nil IsFineName))

pub joiner_fine : (c : Plain) → HasNamesWithin 255 c → IsFineJoiner (joiner_of tilde c)
joiner_fine c short =
    let n : ℕ = suc (greatest (map (longest_run tilde) (all_names c))) in
    let most : greatest (map (longest_run tilde) (all_names c)) ≤ 255 = greatest_runs tilde 255 (all_names c) short in
    let size : length (joiner_of tilde c) ≡ suc (greatest (map (longest_run tilde) (all_names c))) = length-replicate (suc (greatest (map (longest_run tilde) (all_names c)))) tilde in
    record {
      lawful = All-replicate IsNameByte n tilde tilde_byte;
      few = omega arith;
      others = All-replicate (λ b. b ≡ plus → ⊥) n tilde (λ e. omega arith);
    }

pub subject_names_fine : (k : ℕ) (c : Plain) → HasNamesWithin 255 c → All IsName c.names → length c.names ≡ length c.drives
    → first_number k c.drives (length c.drives) ≤ 100000 → All IsFineName (in_places (names_at k c) 0 c.drives)
subject_names_fine k c short lawful named few =
    let each : (s : ℕ) (d : Drive) → slice_get c.drives s ≡ Some d → All IsFineName (names_at k c (0 + s) d) = λ s d is.
    let within : s < length c.drives = slice_get_within c.drives s d is in
    let inside : s < length c.names = omega arith in
    let more : extra k d ≤ sum_by (extra k) c.drives = extra_within k c.drives s d is in
    let all : sum_by (extra k) (take (length c.drives) c.drives) ≡ sum_by (extra k) c.drives = ap (λ ds. sum_by (extra k) ds) (take_all (length c.drives) c.drives (omega arith)) in
    let is_name : IsName (get_or c.names s []) = All-get_or IsName c.names s [] inside lawful in
    let first : get_or (c.names ++ clock_name c.clock) s [] ≡ get_or c.names s [] = get_or_append_left c.names (clock_name c.clock) [] s inside in
    let longer : s < length (c.names ++ clock_name c.clock) = omega (arith, length-append c.names (clock_name c.clock)) in
    let is_short : length (get_or c.names s []) ≤ 255 = subst (λ (n : List ℕ). length n ≤ 255) first (All-get_or (λ n. length n ≤ 255) (c.names ++ clock_name c.clock) s [] longer short) in
    let place : s ≡ 0 + s = omega arith in
    subst (λ (n : ℕ). All IsFineName (names_at k c n d)) place (names_for_fine k (get_or c.names s []) (joiner_of tilde c) d is_name is_short (joiner_fine c short) (omega arith)) in
    all_places IsFineName (names_at k c) 0 c.drives each

-- ---- which name stands where

piece_name_last : (name joiner : List ℕ) (n : ℕ) (pieces : List Piece) (i : ℕ) (x : List ℕ) → suc i ≡ length pieces
    → get_or (piece_names name joiner n pieces) i x ≡ name
piece_name_last name joiner n [] i x last = absurd (omega arith)
piece_name_last name joiner n (piece ∷ []) zero x last = refl
piece_name_last name joiner n (piece ∷ []) (suc i) x last = absurd (omega arith)
piece_name_last name joiner n (piece ∷ next ∷ rest) zero x last = absurd (omega arith)
piece_name_last name joiner n (piece ∷ next ∷ rest) (suc i) x last = piece_name_last name joiner (suc n) (next ∷ rest) i x (omega arith)

piece_name_new : (name joiner : List ℕ) (n : ℕ) (pieces : List Piece) (i : ℕ) (x : List ℕ) → suc i < length pieces
    → get_or (piece_names name joiner n pieces) i x ≡ (name ++ joiner) ++ decimal (n + i)
piece_name_new name joiner n [] i x inner = absurd (omega arith)
piece_name_new name joiner n (piece ∷ []) i x inner = absurd (omega arith)
piece_name_new name joiner n (piece ∷ next ∷ rest) zero x inner =
    let same : n ≡ n + 0 = omega arith in
    ap (λ m. (name ++ joiner) ++ decimal m) same
piece_name_new name joiner n (piece ∷ next ∷ rest) (suc i) x inner =
    let same : suc n + i ≡ n + suc i = omega arith in
    piece_name_new name joiner (suc n) (next ∷ rest) i x (omega arith) ∙ ap (λ m. (name ++ joiner) ++ decimal m) same

-- A name is that of the signal itself, or that of the new gate numbered from 1.
abbrev pub IsNameOf : List ℕ → List ℕ → ℕ → ℕ → List ℕ → Type 0
IsNameOf name joiner more i x = ((x ≡ name) × (i ≡ more)) ⊎ ((i < more) × (x ≡ (name ++ joiner) ++ decimal (suc i)))

wide_name_at : (test : Bool) (name joiner : List ℕ) (pieces : List Piece) (i : ℕ) (x : List ℕ) → 0 < length pieces
    → i < suc (cond test (length pieces - 1) 0)
    → IsNameOf name joiner (cond test (length pieces - 1) 0) i (get_or (cond test (piece_names name joiner 1 pieces) (name ∷ [])) i x)
wide_name_at true name joiner pieces i x some within =
    elim (cases_lt (suc i) (length pieces)) [
      | inl inner ↦
          let same : 1 + i ≡ suc i = omega arith in
          inr (omega arith, piece_name_new name joiner 1 pieces i x inner ∙ ap (λ m. (name ++ joiner) ++ decimal m) same)
      | inr last ↦ inl (piece_name_last name joiner 1 pieces i x (omega arith), omega arith)
    ]
wide_name_at false name joiner pieces zero x some within = inl (refl, refl)
wide_name_at false name joiner pieces (suc i) x some within = absurd (omega arith)

pub names_for_at : (k : ℕ) (name joiner : List ℕ) (d : Drive) (i : ℕ) (x : List ℕ) → i < suc (extra k d)
    → IsNameOf name joiner (extra k d) i (get_or (names_for k name joiner d) i x)
names_for_at k name joiner input zero x within = inl (refl, refl)
names_for_at k name joiner input (suc i) x within = absurd (omega arith)
names_for_at k name joiner (latch next init) zero x within = inl (refl, refl)
names_for_at k name joiner (latch next init) (suc i) x within = absurd (omega arith)
names_for_at k name joiner (gate pins cover) i x within =
    wide_name_at (ltb k (length pins)) name joiner (pieces_of pins cover) i x (some_pieces pins cover) within

pub record IsNamedAt (k : ℕ) (c : Plain) (n : ℕ) (x : List ℕ) (s i : ℕ) (d : Drive) : Type 0 where
  pub place : IsAt (extra k) c.drives n s i d
  pub name : IsNameOf (get_or c.names s []) (joiner_of tilde c) (extra k d) i x

pub named_at : (k : ℕ) (c : Plain) (n : ℕ) (x : List ℕ) → n < length (in_places (names_at k c) 0 c.drives)
    → (s : ℕ) × ((i : ℕ) × ((d : Drive) × IsNamedAt k c n (get_or (in_places (names_at k c) 0 c.drives) n x) s i d))
named_at k c n x within =
    let sizes : (t : ℕ) (e : Drive) → length (names_at k c t e) ≡ suc (extra k e) = λ t e. length-names_for k (get_or c.names t []) (joiner_of tilde c) e in
    let size : length (in_places (names_at k c) 0 c.drives) ≡ length c.drives + sum_by (extra k) c.drives = length-in_places (names_at k c) (extra k) sizes 0 c.drives in
    let (s, (i, (d, place))) = located (extra k) c.drives n (omega arith) in
    let there : get_or (in_places (names_at k c) 0 c.drives) ((s + sum_by (extra k) (take s c.drives)) + i) x ≡ get_or (names_at k c (0 + s) d) i x = places_at (names_at k c) (extra k) sizes 0 c.drives s i d x place.drive place.within in
    let zero_place : 0 + s ≡ s = omega arith in
    let is : get_or (in_places (names_at k c) 0 c.drives) n x ≡ get_or (names_at k c s d) i x = ap (λ m. get_or (in_places (names_at k c) 0 c.drives) m x) place.index ∙ (there ∙ ap (λ m. get_or (names_at k c m d) i x) zero_place) in (
      s,
      (
        i,
        (
          d,
          record {
            place = place;
            name = subst (λ (y : List ℕ). IsNameOf (get_or c.names s []) (joiner_of tilde c) (extra k d) i y) (sym is) (names_for_at k (get_or c.names s []) (joiner_of tilde c) d i x place.within);
          },
        ),
      ),
    )

-- ---- names that differ

no_inner : (t : ℕ) (front back : List ℕ) → All (λ b. b ≡ t → ⊥) (front ++ t ∷ back) → ⊥
no_inner t [] back none = All-head (λ b. b ≡ t → ⊥) t back none refl
no_inner t (a ∷ front) back none = no_inner t front back (All-tail (λ b. b ≡ t → ⊥) a (front ++ t ∷ back) none)

-- Where the last `~` stands is told by the bytes.
last_split : (t : ℕ) (a b x y : List ℕ) → a ++ t ∷ x ≡ b ++ t ∷ y → All (λ z. z ≡ t → ⊥) x → All (λ z. z ≡ t → ⊥) y → (a ≡ b) × (x ≡ y)
last_split t [] [] x y same none_x none_y = (refl, cc)
last_split t [] (e ∷ b) x y same none_x none_y =
    let tail : x ≡ b ++ t ∷ y = cc in
    absurd (no_inner t b y (subst (λ (zs : List ℕ). All (λ z. z ≡ t → ⊥) zs) tail none_x))
last_split t (e ∷ a) [] x y same none_x none_y =
    let tail : y ≡ a ++ t ∷ x = cc in
    absurd (no_inner t a x (subst (λ (zs : List ℕ). All (λ z. z ≡ t → ⊥) zs) tail none_y))
last_split t (e ∷ a) (f ∷ b) x y same none_x none_y =
    let head : e ≡ f = cc in
    let tail : a ++ t ∷ x ≡ b ++ t ∷ y = cc in
    let (fronts, backs) = last_split t a b x y tail none_x none_y in
    (cc, backs)

no_tilde : (n : ℕ) → n < 2 ^ 64 → All (λ z. z ≡ tilde → ⊥) (decimal n)
no_tilde n small = All-weaker (λ b. (48 ≤ b) × (b ≤ 57)) (λ z. z ≡ tilde → ⊥) (λ z is e. omega arith) (decimal n) (decimal_digits n small)

joined_split : (a : List ℕ) (g n : ℕ) → (a ++ replicate (suc g) tilde) ++ decimal n ≡ (a ++ replicate g tilde) ++ tilde ∷ decimal n
joined_split a g n =
    let one : g + 1 ≡ suc g = omega arith in
    let run : replicate (suc g) tilde ≡ replicate g tilde ++ tilde ∷ [] = ap (λ m. replicate m tilde) (sym one) ∙ sym (replicate_more g tilde) in
    ap (λ js. (a ++ js) ++ decimal n) run
    ∙ (ap (λ xs. xs ++ decimal n) (sym (append_assoc a (replicate g tilde) (tilde ∷ [])))
    ∙ append_assoc (a ++ replicate g tilde) (tilde ∷ []) (decimal n))

-- Two new names are the same only where both the gate and the number are.
new_same : (a b : List ℕ) (g m n : ℕ) → m < 2 ^ 64 → n < 2 ^ 64
    → (a ++ replicate (suc g) tilde) ++ decimal m ≡ (b ++ replicate (suc g) tilde) ++ decimal n → (a ≡ b) × (m ≡ n)
new_same a b g m n small_m small_n same =
    let split : (a ++ replicate g tilde) ++ tilde ∷ decimal m ≡ (b ++ replicate g tilde) ++ tilde ∷ decimal n = sym (joined_split a g m) ∙ (same ∙ joined_split b g n) in
    let (fronts, digits) = last_split tilde (a ++ replicate g tilde) (b ++ replicate g tilde) (decimal m) (decimal n) split (no_tilde m small_m) (no_tilde n small_n) in
    (append_cancel_right a b (replicate g tilde) fronts, decimal_same m n small_m small_n digits)

-- A new name has a longer run than any old name.
new_not_old : (a old : List ℕ) (g n : ℕ) → longest_run tilde old ≤ g → old ≡ (a ++ replicate (suc g) tilde) ++ decimal n → ⊥
new_not_old a old g n few same =
    let long : suc g ≤ longest_run tilde (a ++ (replicate (suc g) tilde ++ decimal n)) = run_within tilde a (suc g) (decimal n) in
    let whole : longest_run tilde old ≡ longest_run tilde (a ++ (replicate (suc g) tilde ++ decimal n)) = ap (longest_run tilde) (same ∙ append_assoc a (replicate (suc g) tilde) (decimal n)) in
    omega arith

greatest_at : (xs : List ℕ) (i d : ℕ) → i < length xs → get_or xs i d ≤ greatest xs
greatest_at [] i d within = absurd (omega arith)
greatest_at (x ∷ xs) zero d within = omega arith
greatest_at (x ∷ xs) (suc i) d within =
    let later : get_or xs i d ≤ greatest xs = greatest_at xs i d (omega arith) in
    omega arith

run_at : (names : List (List ℕ)) (i : ℕ) (d : List ℕ) → i < length names → longest_run tilde (get_or names i d) ≤ greatest (map (longest_run tilde) names)
run_at names i d within =
    let here : get_or (map (longest_run tilde) names) i 0 ≡ longest_run tilde (get_or names i d) = get_or-map (longest_run tilde) names i d 0 within in
    let most : get_or (map (longest_run tilde) names) i 0 ≤ greatest (map (longest_run tilde) names) = greatest_at (map (longest_run tilde) names) i 0 (omega (arith, length-map names (longest_run tilde))) in
    omega arith

-- What is known of the names of a circuit.
pub record HasNames (c : Plain) : Type 0 where
  pub named : length c.names ≡ length c.drives
  pub distinct : IsDistinctlyNamed c

old_name_at : (c : Plain) (s : ℕ) (d : List ℕ) → s < length c.names → get_or (all_names c) s d ≡ get_or c.names s []
old_name_at c s d within = get_or_append_left c.names (clock_name c.clock) d s within ∙ get_or_default c.names s d [] within

old_run : (c : Plain) (s : ℕ) → s < length c.names → longest_run tilde (get_or c.names s []) ≤ greatest (map (longest_run tilde) (all_names c))
old_run c s within =
    let longer : s < length (all_names c) = omega (arith, length-append c.names (clock_name c.clock)) in
    subst (λ (n : List ℕ). longest_run tilde n ≤ greatest (map (longest_run tilde) (all_names c))) (old_name_at c s [] within) (run_at (all_names c) s [] longer)

old_less : (c : Plain) (s t : ℕ) → HasNames c → s < t → t < length c.names → get_or c.names s [] ≡ get_or c.names t [] → ⊥
old_less c s t has less within same =
    let longer : t < length (all_names c) = omega (arith, length-append c.names (clock_name c.clock)) in
    has.distinct s t [] less longer (old_name_at c s [] (omega arith) ∙ (same ∙ sym (old_name_at c t [] within)))

old_same : (c : Plain) (s t : ℕ) → HasNames c → s < length c.names → t < length c.names → get_or c.names s [] ≡ get_or c.names t [] → s ≡ t
old_same c s t has within_s within_t same =
    elim (cases_lt s t) [
      | inl less ↦ absurd (old_less c s t has less within_t same)
      | inr more ↦ elim (cases_lt t s) [
        | inl greater ↦ absurd (old_less c t s has greater within_s (sym same))
        | inr equal ↦ omega arith
      ]
    ]

-- Signals of the same name have the same number.
pub same_number : (k : ℕ) (c : Plain) (m n s t i j : ℕ) (d e : Drive) (x : List ℕ) → HasNames c → first_number k c.drives (length c.drives) ≤ 100000
    → IsNamedAt k c m x s i d → IsNamedAt k c n x t j e → m ≡ n
same_number k c m n s t i j d e x has few at_m at_n =
    let g : ℕ = greatest (map (longest_run tilde) (all_names c)) in
    let within_s : s < length c.drives = slice_get_within c.drives s d at_m.place.drive in
    let within_t : t < length c.drives = slice_get_within c.drives t e at_n.place.drive in
    let named : length c.names ≡ length c.drives = has.named in
    let all : sum_by (extra k) (take (length c.drives) c.drives) ≡ sum_by (extra k) c.drives = ap (λ ds. sum_by (extra k) ds) (take_all (length c.drives) c.drives (omega arith)) in
    let few_d : extra k d ≤ sum_by (extra k) c.drives = extra_within k c.drives s d at_m.place.drive in
    let few_e : extra k e ≤ sum_by (extra k) c.drives = extra_within k c.drives t e at_n.place.drive in
    let drive_d : get_or c.drives s d ≡ d = get_or_from_slice_get c.drives s d d at_m.place.drive in
    let drive_e : get_or c.drives t d ≡ e = get_or_from_slice_get c.drives t e d at_n.place.drive in
    let index_m : m ≡ (s + sum_by (extra k) (take s c.drives)) + i = at_m.place.index in
    let index_n : n ≡ (t + sum_by (extra k) (take t c.drives)) + j = at_n.place.index in
    let same_place : s ≡ t → i ≡ j → m ≡ n = λ places offsets. index_m ∙ (ap (λ u. (u + sum_by (extra k) (take u c.drives)) + i) places ∙ (ap (λ o. (t + sum_by (extra k) (take t c.drives)) + o) offsets ∙ sym index_n)) in
    elim at_m.name [
      | inl (old_m, last_m) ↦ elim at_n.name [
        | inl (old_n, last_n) ↦
            let places : s ≡ t = old_same c s t has (omega arith) (omega arith) (sym old_m ∙ old_n) in
            let drives : d ≡ e = sym drive_d ∙ (ap (λ u. get_or c.drives u d) places ∙ drive_e) in
            same_place places (last_m ∙ (ap (λ f. extra k f) drives ∙ sym last_n))
        | inr (less_n, new_n) ↦ absurd (new_not_old (get_or c.names t []) (get_or c.names s []) g (suc j) (old_run c s (omega arith)) (sym old_m ∙ new_n))
      ]
      | inr (less_m, new_m) ↦ elim at_n.name [
        | inl (old_n, last_n) ↦ absurd (new_not_old (get_or c.names s []) (get_or c.names t []) g (suc i) (old_run c t (omega arith)) (sym old_n ∙ new_m))
        | inr (less_n, new_n) ↦
            let (bases, numbers) = new_same (get_or c.names s []) (get_or c.names t []) g (suc i) (suc j) (omega arith) (omega arith) (sym new_m ∙ new_n) in
            same_place (old_same c s t has (omega arith) (omega arith) bases) (omega arith)
      ]
    ]

-- No signal of the subject circuit has the clock's name.
not_clock : (k : ℕ) (c : Plain) (n s i : ℕ) (d : Drive) (x : List ℕ) (clock : Clock) → HasNames c → c.clock ≡ Some clock → IsNamedAt k c n x s i d
    → x ≡ clock.name → ⊥
not_clock k c n s i d x clock has is_clock at_n same =
    let g : ℕ = greatest (map (longest_run tilde) (all_names c)) in
    let within_s : s < length c.drives = slice_get_within c.drives s d at_n.place.drive in
    let named : length c.names ≡ length c.drives = has.named in
    let names : all_names c ≡ c.names ++ clock.name ∷ [] = ap (λ k. c.names ++ clock_name k) is_clock in
    let longer : length c.names < length (all_names c) = omega (arith, ap (λ (ns : List (List ℕ)). length ns) names, length-append c.names (clock.name ∷ [])) in
    let at_end : get_or (all_names c) (length c.names) [] ≡ clock.name = ap (λ ns. get_or ns (length c.names) []) names ∙ get_or_push c.names clock.name [] (length c.names) refl in
    elim at_n.name [
      | inl (old, last) ↦ has.distinct s (length c.names) [] (omega arith) longer (old_name_at c s [] (omega arith) ∙ (sym old ∙ (same ∙ sym at_end)))
      | inr (less, new) ↦
          let few : longest_run tilde clock.name ≤ greatest (map (longest_run tilde) (all_names c)) = subst (λ (y : List ℕ). longest_run tilde y ≤ greatest (map (longest_run tilde) (all_names c))) at_end (run_at (all_names c) (length c.names) [] longer) in
          new_not_old (get_or c.names s []) clock.name g (suc i) few (sym same ∙ new)
    ]

at_clock : (k : ℕ) (c : Plain) (m n : ℕ) (x : List ℕ) → HasNames c → m < n
    → n < length (in_places (names_at k c) 0 c.drives ++ clock_name c.clock)
    → length (in_places (names_at k c) 0 c.drives) ≤ n
    → get_or (in_places (names_at k c) 0 c.drives ++ clock_name c.clock) m x ≡ get_or (in_places (names_at k c) 0 c.drives ++ clock_name c.clock) n x
    → (clock : Option Clock) → c.clock ≡ clock → ⊥
at_clock k c m n x has less within past same None is =
    let none : length (clock_name c.clock) ≡ 0 = ap (λ k. length (clock_name k)) is in
    let size : length (in_places (names_at k c) 0 c.drives ++ clock_name c.clock) ≡ length (in_places (names_at k c) 0 c.drives) + length (clock_name c.clock) = length-append (in_places (names_at k c) 0 c.drives) (clock_name c.clock) in
    absurd (omega arith)
at_clock k c m n x has less within past same (Some clock) is =
    let one : length (clock_name c.clock) ≡ 1 = ap (λ k. length (clock_name k)) is in
    let size : length (in_places (names_at k c) 0 c.drives ++ clock_name c.clock) ≡ length (in_places (names_at k c) 0 c.drives) + length (clock_name c.clock) = length-append (in_places (names_at k c) 0 c.drives) (clock_name c.clock) in
    let last : n ≡ length (in_places (names_at k c) 0 c.drives) = omega arith in
    let inside_m : m < length (in_places (names_at k c) 0 c.drives) = omega arith in
    let left : get_or (in_places (names_at k c) 0 c.drives ++ clock_name c.clock) m x ≡ get_or (in_places (names_at k c) 0 c.drives) m x = get_or_append_left (in_places (names_at k c) 0 c.drives) (clock_name c.clock) x m inside_m in
    let right : get_or (in_places (names_at k c) 0 c.drives ++ clock_name c.clock) n x ≡ clock.name =
    ap (λ o. get_or (in_places (names_at k c) 0 c.drives ++ clock_name o) n x) is ∙ get_or_push (in_places (names_at k c) 0 c.drives) clock.name x n (sym last) in
    let (s, (i, (d, at_m))) = named_at k c m x inside_m in
    not_clock k c m s i d (get_or (in_places (names_at k c) 0 c.drives) m x) clock has is at_m (sym left ∙ (same ∙ right))

pub subject_distinct : (k : ℕ) (c : Plain) → HasNames c → first_number k c.drives (length c.drives) ≤ 100000
    → AllPairs (λ a b. a ≢ b) (in_places (names_at k c) 0 c.drives ++ clock_name c.clock)
subject_distinct k c has few m n x less within same =
    let names : List (List ℕ) = in_places (names_at k c) 0 c.drives in
    elim (cases_lt n (length (in_places (names_at k c) 0 c.drives))) [
      | inl inside ↦
          let inside_m : m < length (in_places (names_at k c) 0 c.drives) = omega arith in
          let (s, (i, (d, at_m))) = named_at k c m x inside_m in
          let (t, (j, (e, at_n))) = named_at k c n x inside in
          let left : get_or (names ++ clock_name c.clock) m x ≡ get_or names m x = get_or_append_left (in_places (names_at k c) 0 c.drives) (clock_name c.clock) x m inside_m in
          let right : get_or (names ++ clock_name c.clock) n x ≡ get_or names n x = get_or_append_left (in_places (names_at k c) 0 c.drives) (clock_name c.clock) x n inside in
          let equal : get_or names m x ≡ get_or names n x = sym left ∙ (same ∙ right) in
          let moved : IsNamedAt k c m (get_or (in_places (names_at k c) 0 c.drives) n x) s i d = subst (λ (y : List ℕ). IsNamedAt k c m y s i d) equal at_m in
          let numbers : m ≡ n = same_number k c m n s t i j d e (get_or (in_places (names_at k c) 0 c.drives) n x) has few moved at_n in
          omega arith
      | inr past ↦ at_clock k c m n x has less within past same c.clock refl
    ]
