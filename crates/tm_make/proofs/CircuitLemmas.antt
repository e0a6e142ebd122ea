-- The sample circuit is sound: `Circuit::build` refuses it for want of memory alone.
use Rattle.std.proofs.Common.{◌≡◌, ◌≢◌, ℕ, zero, suc, ◌+◌, ◌-◌, ◌*◌, ◌<◌, ◌≤◌, Bool, true, false, cond, List, [], ◌∷◌, ◌++◌, length, get_or, map, refl, sym, ◌∙◌, arith, ⊎_elim, All, AllPairs, None, Err, subst}
use Rattle.std.specs.Prelude.{codes}
use Rattle.std.specs.List.{range_with_len}
use Rattle.std.proofs.lemmas.Bool.{cases_lt}
use Rattle.std.proofs.lemmas.List.{append-nil, get_or_past}
use Rattle.std.proofs.lemmas.List.Elements.{All-append, All-cons, All-nil, All-head, All-tail, All-map, All-contains}
use Rattle.std.proofs.lemmas.List.FromFn.{length-map-range_with_len, get_or-map-range_with_len}
use Rattle.std.proofs.Math.Nat.{mod-lt}
use Rattle.tm_bits.specs.declared.cover.Place.TheVariants.{Zero, One, Any}
use Rattle.tm_circuit.specs.declared.circuit.CircuitFault.{CircuitFault}
use Rattle.tm_circuit.specs.declared.circuit.CircuitFault.TheVariants.{TooMany, Range, BadName, RepeatedName, RepeatedOutput, Loop, NoMemory}
use Rattle.tm_circuit.specs.Plain.{Plain, Drive, input, latch, gate, is_gate, drive_in, pins_of, greatest, widest}
use Rattle.tm_circuit.specs.Chain.{RisesTo, IsRanked}
use Rattle.tm_circuit.specs.Build.{IsBuilt}
use Rattle.tm_circuit.specs.Sound.{ReadsBelow, FitsPins, IsInRange, IsName, IsNameByte, IsWellNamed, IsDistinctlyNamed, HasDistinctOutputs}
use Rattle.tm_circuit.proofs.PeriodLemmas.{ranked-no_circle}
use Rattle.tm_make.specs.Sample.{input_name, latch_name, gate_name, latches_of, first_choice, second_choice, kind, number_at}
use Rattle.tm_make.specs.SampleCircuit.{kind_rows, gate_signal, latch_drive, gate_drive, sample_circuit}
use Rattle.tm_make.proofs.NameLemmas.{sample_names, name_at, choice_named, choice_injective, get_or-first, get_or-second, get_or-third, length-three}

abbrev pub sample_drives : ℕ → List Drive
sample_drives n = map (λ _. input) (range_with_len 0 8) ++ map (latch_drive n) (range_with_len 0 (latches_of n)) ++ map (gate_drive n) (range_with_len 0 n)

abbrev pub sample_outputs : ℕ → List ℕ
sample_outputs n = map (gate_signal n) (range_with_len (n - 8) 8)

-- What holds of the function's value at each number of a range holds of each element.
pub all_range : {X : Type 0} (P : X → Type 0) (f : ℕ → X) (a k : ℕ) → ((j : ℕ) → a ≤ j → j < a + k → P (f j)) → All P (map f (range_with_len a k))
all_range P f a k each i d inside =
    let below : i < k = omega (arith, length-map-range_with_len f a k) in
    let at = get_or-map-range_with_len f a k i (a + i) d below refl in
    rw at (each (a + i) (omega arith) (omega arith))

all_drives : (P : Drive → Type 0) (n : ℕ) → P input → ((j : ℕ) → j < latches_of n → P (latch_drive n j)) → ((j : ℕ) → j < n → P (gate_drive n j))
    → All P (sample_drives n)
all_drives P n inputs latches gates =
    All-append P (map (λ _. input) (range_with_len 0 8) ++ map (latch_drive n) (range_with_len 0 (latches_of n))) (map (gate_drive n) (range_with_len 0 n))
    (All-append P (map (λ _. input) (range_with_len 0 8)) (map (latch_drive n) (range_with_len 0 (latches_of n)))
    (all_range P (λ _. input) 0 8 (λ j low high. inputs)) (all_range P (latch_drive n) 0 (latches_of n) (λ j low high. latches j (omega arith))))
    (all_range P (gate_drive n) 0 n (λ j low high. gates j (omega arith)))

pub first_below : (n j : ℕ) → first_choice n j < 8 + latches_of n + j
first_below n j = mod-lt (number_at n (3 * j + 1)) (omega arith)

pub second_below : (n j : ℕ) → second_choice n j < 8 + latches_of n + j
second_below n j = mod-lt (number_at n (3 * j + 2)) (omega arith)

-- Lists of one and of two elements.
pub all_one : {X : Type 0} (P : X → Type 0) (x : X) → P x → All P (x ∷ [])
all_one P x here = All-cons P x [] here (All-nil P)

pub all_two : {X : Type 0} (P : X → Type 0) (x y : X) → P x → P y → All P (x ∷ y ∷ [])
all_two P x y here there = All-cons P x (y ∷ []) here (all_one P y there)

kind_width : (k : ℕ) → All (λ row. length row ≡ 2) (kind_rows k)
kind_width zero = all_one (λ row. length row ≡ 2) (One ∷ One ∷ []) refl
kind_width (suc zero) = all_two (λ row. length row ≡ 2) (One ∷ Any ∷ []) (Any ∷ One ∷ []) refl refl
kind_width (suc (suc k)) = all_two (λ row. length row ≡ 2) (One ∷ Zero ∷ []) (Zero ∷ One ∷ []) refl refl

pub length-drives : (n : ℕ) → length (sample_drives n) ≡ 8 + latches_of n + n
length-drives n = length-three (λ _. input) (latch_drive n) (gate_drive n) 8 (latches_of n) n

in_range : (n : ℕ) → 8 ≤ n → IsInRange (sample_circuit n)
unfolding sample_circuit
in_range n some =
    let long = length-drives n in
    record {
      reads =
          all_drives (ReadsBelow (length (sample_drives n))) n tt (λ j below. rw long (omega arith))
          (λ j below.
          rw long
          (all_two (λ p. p < 8 + latches_of n + n) (first_choice n j) (second_choice n j) (omega (arith, first_below n j)) (omega (arith, second_below n j))));
      pins = all_drives FitsPins n tt (λ j below. tt) (λ j below. (omega arith, kind_width (kind n j)));
      outputs = rw long (all_range (λ s. s < 8 + latches_of n + n) (gate_signal n) (n - 8) 8 (λ j low high. omega arith));
      clock = tt;
    }

-- The name of the model.
model_named : IsName (codes "sample")
model_named = record { some = omega arith; short = omega arith; lawful = λ i d inside. by_place i d inside }
  where
    byte : (b : ℕ) → 93 ≤ b → b ≤ 126 → IsNameByte b
    byte b low high = (omega arith, omega arith, (λ (e : b ≡ 35). omega arith), (λ (e : b ≡ 92). omega arith))

    by_place : (i d : ℕ) → i < 6 → IsNameByte (get_or (codes "sample") i d)
    by_place zero d inside = byte 115 (omega arith) (omega arith)
    by_place (suc zero) d inside = byte 97 (omega arith) (omega arith)
    by_place (suc (suc zero)) d inside = byte 109 (omega arith) (omega arith)
    by_place (suc (suc (suc zero))) d inside = byte 112 (omega arith) (omega arith)
    by_place (suc (suc (suc (suc zero)))) d inside = byte 108 (omega arith) (omega arith)
    by_place (suc (suc (suc (suc (suc zero))))) d inside = byte 101 (omega arith) (omega arith)
    by_place (suc (suc (suc (suc (suc (suc i)))))) d inside = absurd (omega arith)

well_named : (n : ℕ) → n ≤ 20000 → IsWellNamed (sample_circuit n)
unfolding sample_circuit
well_named n few =
    record {
      model = model_named;
      signals = λ s d inside.
          let here : s < 8 + latches_of n + n = omega (arith, length-three input_name latch_name gate_name 8 (latches_of n) n) in
          rw (name_at n s d here) (choice_named (latches_of n) s (omega arith));
      clock = tt;
    }

distinctly_named : (n : ℕ) → n ≤ 20000 → IsDistinctlyNamed (sample_circuit n)
unfolding sample_circuit
distinctly_named n few =
    subst (λ (names : List (List ℕ)). AllPairs (λ a b. a ≢ b) names) (sym (append-nil (sample_names n)))
    (λ i j d below inside.
    let there : j < 8 + latches_of n + n = omega (arith, length-three input_name latch_name gate_name 8 (latches_of n) n) in
    let here : i < 8 + latches_of n + n = omega arith in
    λ same.
    let e : i ≡ j
    = choice_injective (latches_of n) i j (omega arith) (omega arith) (sym (name_at n i d here) ∙ same ∙ name_at n j d there) in
    omega arith)

distinct_outputs : (n : ℕ) → HasDistinctOutputs (sample_circuit n)
unfolding sample_circuit
distinct_outputs n i j d below inside same =
    let there : j < 8 = omega (arith, length-map-range_with_len (gate_signal n) (n - 8) 8) in
    let at_i = get_or-map-range_with_len (gate_signal n) (n - 8) 8 i (n - 8 + i) d (omega arith) refl in
    let at_j = get_or-map-range_with_len (gate_signal n) (n - 8) 8 j (n - 8 + j) d there refl in
    let e : gate_signal n (n - 8 + i) ≡ gate_signal n (n - 8 + j) = sym at_i ∙ same ∙ at_j in
    omega arith

-- A rank that rises along pins: the number of a gate.
rank_of : List Drive → ℕ → ℕ
rank_of drives s = cond (is_gate (drive_in drives s)) (suc s) 0

rank_at_most : (drives : List Drive) (s : ℕ) → rank_of drives s ≤ suc s
unfolding rank_of
rank_at_most drives s = by_test (is_gate (drive_in drives s))
  where
    by_test : (test : Bool) → cond test (suc s) 0 ≤ suc s
    by_test true = omega arith
    by_test false = omega arith

rank_rises : (drives : List Drive) → ((s : ℕ) → All (λ p. p < s) (pins_of (drive_in drives s))) → IsRanked drives (rank_of drives)
unfolding rank_of
rank_rises drives below = record { rises = λ s. by_drive s (drive_in drives s) refl }
  where
    by_drive : (s : ℕ) (d : Drive) → drive_in drives s ≡ d → RisesTo (rank_of drives) s d
    by_drive s input e = rw e refl
    by_drive s (latch next init) e = rw e refl
    by_drive s (gate pins cover) e = λ p there.
        let all : All (λ p. p < s) pins = rw e at (below s) in
        let less : p < s = All-contains (λ p. p < s) pins p all there in
        let most = rank_at_most drives p in
        let own : rank_of drives s ≡ suc s = rw e refl in
        omega arith

pins_below : (n s : ℕ) → All (λ p. p < s) (pins_of (drive_in (sample_drives n) s))
pins_below n s =
    ⊎_elim
    (λ (few : s < 8).
    let e : drive_in (sample_drives n) s ≡ input = get_or-first (λ _. input) (latch_drive n) (gate_drive n) 8 (latches_of n) n s (latch s false) few in
    rw e (All-nil (λ p. p < s)))
    (λ (past : 8 ≤ s).
    ⊎_elim
    (λ (below : s < 8 + latches_of n).
    let e : drive_in (sample_drives n) s ≡ latch_drive n (s - 8)
    = get_or-second (λ _. input) (latch_drive n) (gate_drive n) 8 (latches_of n) n s (latch s false) past below in
    rw e (All-nil (λ p. p < s)))
    (λ (above : 8 + latches_of n ≤ s).
    ⊎_elim
    (λ (inside : s < 8 + latches_of n + n).
    let j = s - (8 + latches_of n) in
    let e : drive_in (sample_drives n) s ≡ gate_drive n j
    = get_or-third (λ _. input) (latch_drive n) (gate_drive n) 8 (latches_of n) n s (latch s false) above inside in
    rw e
    (all_two (λ p. p < s) (first_choice n j) (second_choice n j) (omega (arith, first_below n j)) (omega (arith, second_below n j))))
    (λ (out : 8 + latches_of n + n ≤ s).
    let e : drive_in (sample_drives n) s ≡ latch s false = get_or_past (sample_drives n) s (latch s false) (omega (arith, length-drives n)) in
    rw e (All-nil (λ p. p < s)))
    (cases_lt s (8 + latches_of n + n)))
    (cases_lt s (8 + latches_of n)))
    (cases_lt s 8)

-- ---- what `Circuit::build` answers

pub built_or_no_memory : (n : ℕ) → 8 ≤ n → n ≤ 20000 → (fault : CircuitFault) → IsBuilt (sample_circuit n) (Err fault) → fault ≡ NoMemory
unfolding sample_circuit
built_or_no_memory n some few TooMany built = let long = length-drives n in absurd (omega arith)
built_or_no_memory n some few Range built = absurd (built.1 (in_range n some))
built_or_no_memory n some few BadName built = absurd (built.2 (well_named n few))
built_or_no_memory n some few RepeatedName built = absurd (built.3 (distinctly_named n few))
built_or_no_memory n some few RepeatedOutput built = absurd (built.4 (distinct_outputs n))
built_or_no_memory n some few Loop built =
    absurd
    (ranked-no_circle (sample_drives n) (rank_of (sample_drives n)) (rank_rises (sample_drives n) (pins_below n)) built.5)
built_or_no_memory n some few NoMemory built = refl

-- The circuit of parts whose names, drives and outputs are those of the sample.
pub sample_circuit_is : (n : ℕ) (c : Plain) → c.model ≡ codes "sample" → c.clock ≡ None → c.names ≡ sample_names n → c.drives ≡ sample_drives n
    → c.outputs ≡ sample_outputs n → c ≡ sample_circuit n
unfolding sample_circuit
sample_circuit_is n c model clock names drives outputs = λ i. record { model = model i; clock = clock i; names = names i; drives = drives i; outputs = outputs i }

-- ---- how large the circuit is

pub few_signals : (n : ℕ) → n ≤ 20000 → length (sample_circuit n).drives ≤ 100000
unfolding sample_circuit
few_signals n few = let long = length-drives n in omega arith

pub few_names : (n : ℕ) → n ≤ 20000 → length (sample_circuit n).names ≤ 100000
unfolding sample_circuit
few_names n few = let long = length-three input_name latch_name gate_name 8 (latches_of n) n in omega arith

greatest_within : (most : ℕ) (xs : List ℕ) → All (λ x. x ≤ most) xs → greatest xs ≤ most
greatest_within most [] all = omega arith
greatest_within most (x ∷ xs) all =
    let here = All-head (λ x. x ≤ most) x xs all in
    let rest = greatest_within most xs (All-tail (λ x. x ≤ most) x xs all) in
    omega arith

pub narrow_gates : (n : ℕ) → widest (sample_circuit n).drives ≤ 2
unfolding sample_circuit
narrow_gates n =
    greatest_within 2 (map (λ d. length (pins_of d)) (sample_drives n))
    (All-map (λ x. x ≤ 2) (λ d. length (pins_of d)) (sample_drives n)
    (all_drives (λ d. length (pins_of d) ≤ 2) n (omega arith) (λ j below. omega arith) (λ j below. omega arith)))

pub in_a_row : {X : Type 0} (a a' b b' c c' : List X) → a ≡ a' → b ≡ b' → c ≡ c' → a ++ b ++ c ≡ a' ++ b' ++ c'
in_a_row a a' b b' c c' p q r = cc
