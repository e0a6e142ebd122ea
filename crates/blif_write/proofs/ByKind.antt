-- The signals of a circuit by their kinds: the inputs, then the latches, then the gates.
use Rattle.std.proofs.Common.{◌≡◌, ℕ, ◌<◌, ◌++◌, List, [], ◌∷◌, cond, length, map, zip, Some, refl, sym, ap, ◌∙◌, arith}
use Rattle.std.specs.Prelude.{slice_get, Contains}
use Rattle.std.specs.List.{flat_map}
use Rattle.std.proofs.lemmas.List.Sums.{sum_by-cons}
use Rattle.tm_circuit.specs.Plain.{Plain, Drive, input, latch, gate, is_latch, latch_count, drive_in, pins_of}
use Rattle.tm_circuit.specs.Chain.{IsChain, HasCircle, IsRanked, RisesTo, rank}
use Rattle.tm_circuit.specs.Sound.{IsSound}
use Rattle.blif_write.specs.Text.{signals_of}
use Rattle.blif_write.proofs.Order.{AreGates, AreLatches, AreOrdered, ordered}

-- A value for each signal of a kind, and none for any other.
abbrev pub of_input : {A : Type 0} → (List ℕ → Drive → A) → List ℕ → Drive → List A
of_input v name input = v name input ∷ []
of_input v name (latch next init) = []
of_input v name (gate pins cover) = []

abbrev pub of_latch : {A : Type 0} → (List ℕ → Drive → A) → List ℕ → Drive → List A
of_latch v name input = []
of_latch v name (latch next init) = v name (latch next init) ∷ []
of_latch v name (gate pins cover) = []

abbrev pub of_gate : {A : Type 0} → (List ℕ → Drive → A) → List ℕ → Drive → List A
of_gate v name input = []
of_gate v name (latch next init) = []
of_gate v name (gate pins cover) = v name (gate pins cover) ∷ []

abbrev pub inputs_by : {A : Type 0} → (List ℕ → Drive → A) → List (List ℕ × Drive) → List A
inputs_by v xs = flat_map (λ s. of_input v s.0 s.1) xs

abbrev pub latches_by : {A : Type 0} → (List ℕ → Drive → A) → List (List ℕ × Drive) → List A
latches_by v xs = flat_map (λ s. of_latch v s.0 s.1) xs

abbrev pub gates_by : {A : Type 0} → (List ℕ → Drive → A) → List (List ℕ × Drive) → List A
gates_by v xs = flat_map (λ s. of_gate v s.0 s.1) xs

gates_no_inputs : {A : Type 0} (v : List ℕ → Drive → A) (names : List (List ℕ)) (ds : List Drive) → AreGates ds → inputs_by v (zip names ds) ≡ []
gates_no_inputs v [] ds h = refl
gates_no_inputs v (name ∷ names) [] h = refl
gates_no_inputs v (name ∷ names) (input ∷ ds) h = absurd h
gates_no_inputs v (name ∷ names) (latch next init ∷ ds) h = absurd h
gates_no_inputs v (name ∷ names) (gate pins cover ∷ ds) h = gates_no_inputs v names ds h

gates_no_latches : {A : Type 0} (v : List ℕ → Drive → A) (names : List (List ℕ)) (ds : List Drive) → AreGates ds → latches_by v (zip names ds) ≡ []
gates_no_latches v [] ds h = refl
gates_no_latches v (name ∷ names) [] h = refl
gates_no_latches v (name ∷ names) (input ∷ ds) h = absurd h
gates_no_latches v (name ∷ names) (latch next init ∷ ds) h = absurd h
gates_no_latches v (name ∷ names) (gate pins cover ∷ ds) h = gates_no_latches v names ds h

gates_all : {A : Type 0} (v : List ℕ → Drive → A) (names : List (List ℕ)) (ds : List Drive) → AreGates ds → map (λ s. v s.0 s.1) (zip names ds) ≡ gates_by v (zip names ds)
gates_all v [] ds h = refl
gates_all v (name ∷ names) [] h = refl
gates_all v (name ∷ names) (input ∷ ds) h = absurd h
gates_all v (name ∷ names) (latch next init ∷ ds) h = absurd h
gates_all v (name ∷ names) (gate pins cover ∷ ds) h = ap (λ xs. v name (gate pins cover) ∷ xs) (gates_all v names ds h)

latches_no_inputs : {A : Type 0} (v : List ℕ → Drive → A) (names : List (List ℕ)) (ds : List Drive) → AreLatches ds → inputs_by v (zip names ds) ≡ []
latches_no_inputs v [] ds h = refl
latches_no_inputs v (name ∷ names) [] h = refl
latches_no_inputs v (name ∷ names) (input ∷ ds) h = absurd h
latches_no_inputs v (name ∷ names) (latch next init ∷ ds) h = latches_no_inputs v names ds h
latches_no_inputs v (name ∷ names) (gate pins cover ∷ ds) h = gates_no_inputs v names ds h

latches_split : {A : Type 0} (v : List ℕ → Drive → A) (names : List (List ℕ)) (ds : List Drive) → AreLatches ds → map (λ s. v s.0 s.1) (zip names ds) ≡ latches_by v (zip names ds) ++ gates_by v (zip names ds)
latches_split v [] ds h = refl
latches_split v (name ∷ names) [] h = refl
latches_split v (name ∷ names) (input ∷ ds) h = absurd h
latches_split v (name ∷ names) (latch next init ∷ ds) h = ap (λ xs. v name (latch next init) ∷ xs) (latches_split v names ds h)
latches_split v (name ∷ names) (gate pins cover ∷ ds) h =
    gates_all v (name ∷ names) (gate pins cover ∷ ds) h
    ∙ ap (λ xs. xs ++ gates_by v (zip (name ∷ names) (gate pins cover ∷ ds))) (sym (gates_no_latches v names ds h))

-- The values of all signals, by their kinds.
kinds_split : {A : Type 0} (v : List ℕ → Drive → A) (names : List (List ℕ)) (ds : List Drive) → AreOrdered ds → map (λ s. v s.0 s.1) (zip names ds) ≡ inputs_by v (zip names ds) ++ (latches_by v (zip names ds) ++ gates_by v (zip names ds))
kinds_split v [] ds h = refl
kinds_split v (name ∷ names) [] h = refl
kinds_split v (name ∷ names) (input ∷ ds) h = ap (λ xs. v name input ∷ xs) (kinds_split v names ds h)
kinds_split v (name ∷ names) (latch next init ∷ ds) h =
    latches_split v (name ∷ names) (latch next init ∷ ds) h
    ∙ ap (λ xs. xs ++ (latches_by v (zip (name ∷ names) (latch next init ∷ ds)) ++ gates_by v (zip (name ∷ names) (latch next init ∷ ds)))) (sym (latches_no_inputs v names ds h))
kinds_split v (name ∷ names) (gate pins cover ∷ ds) h =
    latches_split v (name ∷ names) (gate pins cover ∷ ds) h
    ∙ ap (λ xs. xs ++ (latches_by v (zip (name ∷ names) (gate pins cover ∷ ds)) ++ gates_by v (zip (name ∷ names) (gate pins cover ∷ ds)))) (sym (gates_no_inputs v names ds h))

zip_names : (names : List (List ℕ)) (ds : List Drive) → length names ≡ length ds → map (λ s. s.0) (zip names ds) ≡ names
zip_names [] ds e = refl
zip_names (name ∷ names) [] e = absurd (omega arith)
zip_names (name ∷ names) (d ∷ ds) e = ap (λ xs. name ∷ xs) (zip_names names ds (omega arith))

zip_drives : {A : Type 0} (f : Drive → A) (names : List (List ℕ)) (ds : List Drive) → length names ≡ length ds → map (λ s. f s.1) (zip names ds) ≡ map f ds
zip_drives f [] [] e = refl
zip_drives f [] (d ∷ ds) e = absurd (omega arith)
zip_drives f (name ∷ names) [] e = absurd (omega arith)
zip_drives f (name ∷ names) (d ∷ ds) e = ap (λ xs. f d ∷ xs) (zip_drives f names ds (omega arith))

pub names_by_kind : (c : Plain) → IsSound c → c.names ≡ inputs_by (λ n d. n) (signals_of c) ++ (latches_by (λ n d. n) (signals_of c) ++ gates_by (λ n d. n) (signals_of c))
names_by_kind c sound = sym (zip_names c.names c.drives sound.named) ∙ kinds_split (λ n d. n) c.names c.drives (ordered c sound)

pub drives_by_kind : {A : Type 0} (f : Drive → A) (c : Plain) → IsSound c → map f c.drives ≡ inputs_by (λ n d. f d) (signals_of c) ++ (latches_by (λ n d. f d) (signals_of c) ++ gates_by (λ n d. f d) (signals_of c))
drives_by_kind f c sound = sym (zip_drives f c.names c.drives sound.named) ∙ kinds_split (λ n d. f d) c.names c.drives (ordered c sound)

-- Where there is a latch, the first value of latches is a value.
latch_first : {A : Type 0} (a : A) (names : List (List ℕ)) (ds : List Drive) → length names ≡ length ds → 0 < latch_count ds → slice_get (latches_by (λ n d. a) (zip names ds)) 0 ≡ Some a
latch_first a names [] e some = absurd (omega arith)
latch_first a [] (d ∷ ds) e some = absurd (omega arith)
latch_first a (name ∷ names) (latch next init ∷ ds) e some = refl
latch_first a (name ∷ names) (input ∷ ds) e some =
    let count = sum_by-cons (λ (x : Drive). cond (is_latch x) 1 0) input ds in
    latch_first a names ds (omega arith) (omega arith)
latch_first a (name ∷ names) (gate pins cover ∷ ds) e some =
    let count = sum_by-cons (λ (x : Drive). cond (is_latch x) 1 0) (gate pins cover) ds in
    latch_first a names ds (omega arith) (omega arith)

pub first_of_latches : {A : Type 0} (a : A) (c : Plain) → IsSound c → 0 < latch_count c.drives → slice_get (latches_by (λ n d. a) (signals_of c)) 0 ≡ Some a
first_of_latches a c sound some = latch_first a c.names c.drives sound.named some

-- ---- no circle

pin_rises : (rank : ℕ → ℕ) (p s : ℕ) (d : Drive) → RisesTo rank s d → Contains (pins_of d) p → rank p < rank s
pin_rises rank p s input r h = absurd (omega (arith, h.1))
pin_rises rank p s (latch next init) r h = absurd (omega (arith, h.1))
pin_rises rank p s (gate pins cover) r h = r p h

chain_rises : (drives : List Drive) (rank : ℕ → ℕ) → IsRanked drives rank → (through : List ℕ) (a b : ℕ) → IsChain drives (a ∷ (through ++ b ∷ [])) → rank a < rank b
chain_rises drives rank ranked [] a b chain = pin_rises rank a b (drive_in drives b) (ranked.rises b) chain.1
chain_rises drives rank ranked (t ∷ through) a b chain =
    let first : rank a < rank t = pin_rises rank a t (drive_in drives t) (ranked.rises t) chain.1 in
    let others : rank t < rank b = chain_rises drives rank ranked through t b chain.2 in
    omega arith

pub no_circle : (c : Plain) → IsSound c → HasCircle c.drives → ⊥
no_circle c sound circle =
    let up = chain_rises c.drives (rank c) sound.ranked circle.1.0 circle.0 circle.0 circle.1.1 in
    omega arith
