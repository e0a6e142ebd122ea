-- The names of the sample: lawful, and each of one signal.
use Rattle.std.proofs.Common.{◌≡◌, ℕ, ◌+◌, ◌-◌, ◌%◌, ◌^◌, ◌<◌, ◌≤◌, List, [], ◌∷◌, ◌++◌, length, get_or, map, refl, sym, ap, ◌∙◌, arith, ⊎_elim, All}
use Rattle.std.specs.Fmt.{decimal}
use Rattle.std.specs.List.{range_with_len}
use Rattle.std.proofs.lemmas.Bool.{cases_lt, lt-ltb, le-ltb}
use Rattle.std.proofs.lemmas.Fmt.{decimal_by_steps, length-decimal-le, decimal_injective}
use Rattle.std.proofs.lemmas.List.{length-append, get_or_append_left, get_or-append_right}
use Rattle.std.proofs.lemmas.List.Elements.{All-cons, All-push, All-nil}
use Rattle.std.proofs.lemmas.List.FromFn.{length-map-range_with_len, get_or-map-range_with_len}
use Rattle.tm_circuit.specs.Sound.{IsName, IsNameByte}
use Rattle.tm_make.specs.Sample.{input_name, latch_name, gate_name, choice_name, latches_of}

-- ---- bytes

-- The bytes of a decimal may stand in a name.
pub decimal_named : (n : ℕ) → n < 2 ^ 64 → All IsNameByte (decimal n)
decimal_named n fits =
    decimal_by_steps (λ n ds. All IsNameByte ds)
    (λ n few. All-push IsNameByte [] (48 + n) (All-nil IsNameByte) (digit n few))
    (λ n ds many all. All-push IsNameByte ds (48 + n % 10) all (digit (n % 10) (omega arith))) n fits
  where
    digit : (n : ℕ) → n < 10 → IsNameByte (48 + n)
    digit n few = (omega arith, omega arith, (λ (e : 48 + n ≡ 35). omega arith), (λ (e : 48 + n ≡ 92). omega arith))

pub decimal_short : (n : ℕ) → n < 100000 → length (decimal n) ≤ 5
decimal_short n few = length-decimal-le 5 n (omega arith) (omega arith) (omega arith)

pub letter_named : (letter n : ℕ) → IsNameByte letter → n < 100000 → IsName (letter ∷ decimal n)
letter_named letter n byte few =
    let short = decimal_short n few in
    record {
      some = omega arith;
      short = omega arith;
      lawful = All-cons IsNameByte letter (decimal n) byte (decimal_named n (omega arith));
    }

-- ---- what a choice is

pub data Region (latches choice : ℕ) : Type 0 where
  an_input : choice < 8 → choice_name latches choice ≡ 105 ∷ decimal choice → Region latches choice
  a_latch : 8 ≤ choice → choice < 8 + latches → choice_name latches choice ≡ 108 ∷ decimal (choice - 8) → Region latches choice
  a_gate : 8 + latches ≤ choice → choice_name latches choice ≡ 103 ∷ decimal (choice - (8 + latches)) → Region latches choice

pub region : (latches choice : ℕ) → Region latches choice
region latches choice =
    ⊎_elim
    (λ (few : choice < 8). an_input few (rw (lt-ltb choice 8 few) refl))
    (λ (past : 8 ≤ choice).
    ⊎_elim
    (λ (below : choice < 8 + latches). a_latch past below (rw (le-ltb choice 8 past, lt-ltb choice (8 + latches) below) refl))
    (λ (above : 8 + latches ≤ choice). a_gate above (rw (le-ltb choice 8 past, le-ltb choice (8 + latches) above) refl))
    (cases_lt choice (8 + latches)))
    (cases_lt choice 8)

pub input_choice : (latches choice : ℕ) → choice < 8 → choice_name latches choice ≡ input_name choice
input_choice latches choice few = rw (lt-ltb choice 8 few) refl

pub latch_choice : (latches choice : ℕ) → 8 ≤ choice → choice < 8 + latches → choice_name latches choice ≡ latch_name (choice - 8)
latch_choice latches choice past below = rw (le-ltb choice 8 past, lt-ltb choice (8 + latches) below) refl

pub gate_choice : (latches choice : ℕ) → 8 + latches ≤ choice → choice_name latches choice ≡ gate_name (choice - (8 + latches))
gate_choice latches choice above =
    let past : 8 ≤ choice = omega arith in rw (le-ltb choice 8 past, le-ltb choice (8 + latches) above) refl

pub choice_named : (latches choice : ℕ) → choice < 100000 → IsName (choice_name latches choice)
choice_named latches choice few = by_region (region latches choice)
  where
    by_region : Region latches choice → IsName (choice_name latches choice)
    by_region (an_input below is) = rw is (letter_named 105 choice (omega arith, omega arith, (λ (e : 105 ≡ 35). omega arith), (λ (e : 105 ≡ 92). omega arith)) few)
    by_region (a_latch past below is) =
        rw is (letter_named 108 (choice - 8) (omega arith, omega arith, (λ (e : 108 ≡ 35). omega arith), (λ (e : 108 ≡ 92). omega arith)) (omega arith))
    by_region (a_gate above is) =
        rw is
        (letter_named 103 (choice - (8 + latches)) (omega arith, omega arith, (λ (e : 103 ≡ 35). omega arith), (λ (e : 103 ≡ 92). omega arith)) (omega arith))

first_byte : (a b : ℕ) (x y : List ℕ) → a ∷ x ≡ b ∷ y → a ≡ b
first_byte a b x y e = ap (λ l. get_or l 0 0) e

other_bytes : (a b m n : ℕ) → a ∷ decimal m ≡ b ∷ decimal n → decimal m ≡ decimal n
other_bytes a b m n e = cc

pub choice_injective : (latches i j : ℕ) → i < 100000 → j < 100000 → choice_name latches i ≡ choice_name latches j → i ≡ j
choice_injective latches i j few_i few_j same = by_region (region latches i) (region latches j)
  where
    number : (m n a : ℕ) → m < 100000 → n < 100000 → a ∷ decimal m ≡ a ∷ decimal n → m ≡ n
    number m n a few also e = decimal_injective m n (omega arith) (omega arith) (other_bytes a a m n e)

    by_region : Region latches i → Region latches j → i ≡ j
    by_region (an_input below is) (an_input below' is') = number i j 105 few_i few_j (sym is ∙ same ∙ is')
    by_region (an_input below is) (a_latch past' below' is') = let e = first_byte 105 108 _ _ (sym is ∙ same ∙ is') in absurd (omega arith)
    by_region (an_input below is) (a_gate above' is') = let e = first_byte 105 103 _ _ (sym is ∙ same ∙ is') in absurd (omega arith)
    by_region (a_latch past below is) (an_input below' is') = let e = first_byte 108 105 _ _ (sym is ∙ same ∙ is') in absurd (omega arith)
    by_region (a_latch past below is) (a_latch past' below' is') =
        let e : i - 8 ≡ j - 8 = number (i - 8) (j - 8) 108 (omega arith) (omega arith) (sym is ∙ same ∙ is') in omega arith
    by_region (a_latch past below is) (a_gate above' is') = let e = first_byte 108 103 _ _ (sym is ∙ same ∙ is') in absurd (omega arith)
    by_region (a_gate above is) (an_input below' is') = let e = first_byte 103 105 _ _ (sym is ∙ same ∙ is') in absurd (omega arith)
    by_region (a_gate above is) (a_latch past' below' is') = let e = first_byte 103 108 _ _ (sym is ∙ same ∙ is') in absurd (omega arith)
    by_region (a_gate above is) (a_gate above' is') =
        let e : i - (8 + latches) ≡ j - (8 + latches) = number (i - (8 + latches)) (j - (8 + latches)) 103 (omega arith) (omega arith) (sym is ∙ same ∙ is') in
        omega arith

-- ---- names by signals

abbrev pub sample_names : ℕ → List (List ℕ)
sample_names n = map input_name (range_with_len 0 8) ++ map latch_name (range_with_len 0 (latches_of n)) ++ map gate_name (range_with_len 0 n)

-- Three lists in a row, by where an index falls.
pub get_or-first : {X : Type 0} (f g h : ℕ → X) (a b c i : ℕ) (d : X) → i < a
    → get_or (map f (range_with_len 0 a) ++ map g (range_with_len 0 b) ++ map h (range_with_len 0 c)) i d ≡ f i
get_or-first f g h a b c i d below =
    get_or_append_left (map f (range_with_len 0 a) ++ map g (range_with_len 0 b)) (map h (range_with_len 0 c)) d i
    (omega (arith, length-append (map f (range_with_len 0 a)) (map g (range_with_len 0 b)), length-map-range_with_len f 0 a))
    ∙ get_or_append_left (map f (range_with_len 0 a)) (map g (range_with_len 0 b)) d i (omega (arith, length-map-range_with_len f 0 a))
    ∙ get_or-map-range_with_len f 0 a i i d below (omega arith)

pub get_or-second : {X : Type 0} (f g h : ℕ → X) (a b c i : ℕ) (d : X) → a ≤ i → i < a + b
    → get_or (map f (range_with_len 0 a) ++ map g (range_with_len 0 b) ++ map h (range_with_len 0 c)) i d ≡ g (i - a)
get_or-second f g h a b c i d past below =
    get_or_append_left (map f (range_with_len 0 a) ++ map g (range_with_len 0 b)) (map h (range_with_len 0 c)) d i
    (omega
    (arith, length-append (map f (range_with_len 0 a)) (map g (range_with_len 0 b)), length-map-range_with_len f 0 a, length-map-range_with_len g 0 b))
    ∙ get_or-append_right (map f (range_with_len 0 a)) (map g (range_with_len 0 b)) a i d (length-map-range_with_len f 0 a) past
    ∙ get_or-map-range_with_len g 0 b (i - a) (i - a) d (omega arith) (omega arith)

pub get_or-third : {X : Type 0} (f g h : ℕ → X) (a b c i : ℕ) (d : X) → a + b ≤ i → i < a + b + c
    → get_or (map f (range_with_len 0 a) ++ map g (range_with_len 0 b) ++ map h (range_with_len 0 c)) i d ≡ h (i - (a + b))
get_or-third f g h a b c i d past below =
    get_or-append_right (map f (range_with_len 0 a) ++ map g (range_with_len 0 b)) (map h (range_with_len 0 c)) (a + b) i d
    (length-append (map f (range_with_len 0 a)) (map g (range_with_len 0 b)) ∙ (omega (arith, length-map-range_with_len f 0 a, length-map-range_with_len g 0 b)))
    past
    ∙ get_or-map-range_with_len h 0 c (i - (a + b)) (i - (a + b)) d (omega arith) (omega arith)

pub length-three : {X : Type 0} (f g h : ℕ → X) (a b c : ℕ)
    → length (map f (range_with_len 0 a) ++ map g (range_with_len 0 b) ++ map h (range_with_len 0 c)) ≡ a + b + c
length-three f g h a b c =
    length-append (map f (range_with_len 0 a) ++ map g (range_with_len 0 b)) (map h (range_with_len 0 c))
    ∙ (omega
    (arith, length-append (map f (range_with_len 0 a)) (map g (range_with_len 0 b)), length-map-range_with_len f 0 a, length-map-range_with_len g 0 b, length-map-range_with_len h 0 c))

-- The name of a signal is the choice of its number.
pub name_at : (n s : ℕ) (d : List ℕ) → s < 8 + latches_of n + n → get_or (sample_names n) s d ≡ choice_name (latches_of n) s
name_at n s d inside =
    ⊎_elim
    (λ (few : s < 8). get_or-first input_name latch_name gate_name 8 (latches_of n) n s d few ∙ sym (input_choice (latches_of n) s few))
    (λ (past : 8 ≤ s).
    ⊎_elim
    (λ (below : s < 8 + latches_of n).
    get_or-second input_name latch_name gate_name 8 (latches_of n) n s d past below ∙ sym (latch_choice (latches_of n) s past below))
    (λ (above : 8 + latches_of n ≤ s).
    get_or-third input_name latch_name gate_name 8 (latches_of n) n s d above inside ∙ sym (gate_choice (latches_of n) s above))
    (cases_lt s (8 + latches_of n)))
    (cases_lt s 8)
