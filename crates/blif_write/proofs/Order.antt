-- Drives in order: inputs, then latches, then gates.
use Rattle.std.proofs.Common.{◌≡◌, ℕ, suc, ◌+◌, ◌≤◌, List, [], ◌∷◌, cond, length, take, zip, Some, refl, sym, ap, ◌∙◌, subst, arith}
use Rattle.std.specs.Prelude.{slice_get, map, filter}
use Rattle.std.specs.List.{flat_map}
use Rattle.std.proofs.lemmas.List.Sums.{sum_by-cons}
use Rattle.tm_circuit.specs.Plain.{Plain, Drive, input, latch, gate, is_input, input_count, latch_count}
use Rattle.tm_circuit.specs.Sound.{IsSound, IsPlaced}
use Rattle.tm_circuit.specs.Same.{input_names}
use Rattle.blif_write.specs.Text.{signals_of}

-- The name of an input; no name of any other signal.
abbrev pub input_name : List ℕ → Drive → List (List ℕ)
input_name name input = name ∷ []
input_name name (latch next init) = []
input_name name (gate pins cover) = []

names_flat : (xs : List (List ℕ × Drive)) → map (λ s. s.0) (filter (λ s. is_input s.1) xs) ≡ flat_map (λ s. input_name s.0 s.1) xs
names_flat [] = refl
names_flat ((name, input) ∷ xs) = ap (λ ns. name ∷ ns) (names_flat xs)
names_flat ((name, latch next init) ∷ xs) = names_flat xs
names_flat ((name, gate pins cover) ∷ xs) = names_flat xs

-- The names of the inputs, signal by signal.
pub input_names_flat : (c : Plain) → input_names c ≡ flat_map (λ s. input_name s.0 s.1) (signals_of c)
input_names_flat c = names_flat (signals_of c)

abbrev pub AreGates : List Drive → Type 0
AreGates [] = Unit {0}
AreGates (input ∷ ds) = ⊥
AreGates (latch next init ∷ ds) = ⊥
AreGates (gate pins cover ∷ ds) = AreGates ds

abbrev pub AreLatches : List Drive → Type 0
AreLatches [] = Unit {0}
AreLatches (input ∷ ds) = ⊥
AreLatches (latch next init ∷ ds) = AreLatches ds
AreLatches (gate pins cover ∷ ds) = AreGates ds

abbrev pub AreOrdered : List Drive → Type 0
AreOrdered [] = Unit {0}
AreOrdered (input ∷ ds) = AreOrdered ds
AreOrdered (latch next init ∷ ds) = AreLatches ds
AreOrdered (gate pins cover ∷ ds) = AreGates ds

-- Signals from a on are placed by their kind.
abbrev ArePlaced : ℕ → ℕ → ℕ → List Drive → Type 0
ArePlaced inputs latches a ds = (s : ℕ) (d : Drive) → slice_get ds s ≡ Some d → IsPlaced inputs latches (a + s) d

placed_tail : (i l a : ℕ) (x : Drive) (ds : List Drive) → ArePlaced i l a (x ∷ ds) → ArePlaced i l (suc a) ds
placed_tail i l a x ds h s d is =
    let e : a + suc s ≡ suc a + s = omega arith in
    let P : ℕ → Type 0 = λ n. IsPlaced i l n d in
    subst P e (h (suc s) d is)

gates_placed : (i l a : ℕ) (ds : List Drive) → ArePlaced i l a ds → i + l ≤ a → AreGates ds
gates_placed i l a [] h past = tt
gates_placed i l a (input ∷ ds) h past = let in_front = h 0 input refl in absurd (omega arith)
gates_placed i l a (latch next init ∷ ds) h past = let between = h 0 (latch next init) refl in absurd (omega arith)
gates_placed i l a (gate pins cover ∷ ds) h past = gates_placed i l (suc a) ds (placed_tail i l a (gate pins cover) ds h) (omega arith)

latches_placed : (i l a : ℕ) (ds : List Drive) → ArePlaced i l a ds → i ≤ a → AreLatches ds
latches_placed i l a [] h past = tt
latches_placed i l a (input ∷ ds) h past = let in_front = h 0 input refl in absurd (omega arith)
latches_placed i l a (latch next init ∷ ds) h past = latches_placed i l (suc a) ds (placed_tail i l a (latch next init) ds h) (omega arith)
latches_placed i l a (gate pins cover ∷ ds) h past =
    let behind = h 0 (gate pins cover) refl in
    gates_placed i l (suc a) ds (placed_tail i l a (gate pins cover) ds h) (omega arith)

ordered_placed : (i l a : ℕ) (ds : List Drive) → ArePlaced i l a ds → AreOrdered ds
ordered_placed i l a [] h = tt
ordered_placed i l a (input ∷ ds) h = ordered_placed i l (suc a) ds (placed_tail i l a input ds h)
ordered_placed i l a (latch next init ∷ ds) h =
    let between = h 0 (latch next init) refl in
    latches_placed i l (suc a) ds (placed_tail i l a (latch next init) ds h) (omega arith)
ordered_placed i l a (gate pins cover ∷ ds) h =
    let behind = h 0 (gate pins cover) refl in
    gates_placed i l (suc a) ds (placed_tail i l a (gate pins cover) ds h) (omega arith)

pub ordered : (c : Plain) → IsSound c → AreOrdered c.drives
ordered c sound =
    ordered_placed (input_count c.drives) (latch_count c.drives) 0 c.drives
    (λ s d is. let P : ℕ → Type 0 = λ n. IsPlaced (input_count c.drives) (latch_count c.drives) n d in
    let e : s ≡ 0 + s = omega arith in subst P e (sound.placed s d is))

abbrev names_in : List (List ℕ) → List Drive → List (List ℕ)
names_in names ds = flat_map (λ s. input_name s.0 s.1) (zip names ds)

gates_have_none : (names : List (List ℕ)) (ds : List Drive) → AreGates ds → (names_in names ds ≡ []) × (input_count ds ≡ 0)
gates_have_none [] [] h = (refl, refl)
gates_have_none (n ∷ names) [] h = (refl, refl)
gates_have_none names (input ∷ ds) h = absurd h
gates_have_none names (latch next init ∷ ds) h = absurd h
gates_have_none [] (gate pins cover ∷ ds) h =
    let rest = gates_have_none [] ds h in
    let e = sum_by-cons (λ (x : Drive). cond (is_input x) 1 0) (gate pins cover) ds in
    (refl, omega arith)
gates_have_none (n ∷ names) (gate pins cover ∷ ds) h =
    let rest = gates_have_none names ds h in
    let e = sum_by-cons (λ (x : Drive). cond (is_input x) 1 0) (gate pins cover) ds in
    (rest.0, omega arith)

latches_have_none : (names : List (List ℕ)) (ds : List Drive) → AreLatches ds → (names_in names ds ≡ []) × (input_count ds ≡ 0)
latches_have_none [] [] h = (refl, refl)
latches_have_none (n ∷ names) [] h = (refl, refl)
latches_have_none names (input ∷ ds) h = absurd h
latches_have_none [] (latch next init ∷ ds) h =
    let rest = latches_have_none [] ds h in
    let e = sum_by-cons (λ (x : Drive). cond (is_input x) 1 0) (latch next init) ds in
    (refl, omega arith)
latches_have_none (n ∷ names) (latch next init ∷ ds) h =
    let rest = latches_have_none names ds h in
    let e = sum_by-cons (λ (x : Drive). cond (is_input x) 1 0) (latch next init) ds in
    (rest.0, omega arith)
latches_have_none names (gate pins cover ∷ ds) h = gates_have_none names (gate pins cover ∷ ds) h

-- The names of the inputs are the first names.
inputs_first : (names : List (List ℕ)) (ds : List Drive) → AreOrdered ds → length names ≡ length ds → names_in names ds ≡ take (input_count ds) names
inputs_first [] [] h named = refl
inputs_first (n ∷ names) [] h named = absurd (omega arith)
inputs_first [] (d ∷ ds) h named = absurd (omega arith)
inputs_first (n ∷ names) (input ∷ ds) h named =
    let e : input_count (input ∷ ds) ≡ 1 + input_count ds = sum_by-cons (λ (x : Drive). cond (is_input x) 1 0) input ds in
    let more : 1 + input_count ds ≡ suc (input_count ds) = omega arith in
    rw (e, more) (ap (λ xs. n ∷ xs) (inputs_first names ds h (omega arith)))
inputs_first (n ∷ names) (latch next init ∷ ds) h named =
    let none = latches_have_none (n ∷ names) (latch next init ∷ ds) h in
    none.0 ∙ ap (λ k. take k (n ∷ names)) (sym none.1)
inputs_first (n ∷ names) (gate pins cover ∷ ds) h named =
    let none = gates_have_none (n ∷ names) (gate pins cover ∷ ds) h in
    none.0 ∙ ap (λ k. take k (n ∷ names)) (sym none.1)

pub input_names_first : (c : Plain) → IsSound c → input_names c ≡ take (input_count c.drives) c.names
input_names_first c sound = input_names_flat c ∙ inputs_first c.names c.drives (ordered c sound) sound.named
