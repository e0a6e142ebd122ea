-- The subject circuit is lawful: it is refused for no reason but want of memory.
use Rattle.std.proofs.Common.{◌≡◌, ◌≢◌, ℕ, suc, ◌+◌, ◌<◌, ◌≤◌, Bool, true, false, cond, ltb, List, [], ◌∷◌, ◌++◌, map, length, get_or, Some, None, inl, inr, zero-add, refl, sym, ◌∙◌, ap, subst, arith}
use Rattle.std.specs.Prelude.{All, AllPairs, Option, IfSome, count_by, if◌then◌else◌}
use Rattle.std.proofs.lemmas.Bool.{cases_lt}
use Rattle.std.proofs.lemmas.List.{length-map, get_or-map}
use Rattle.std.proofs.lemmas.List.Sums.{sum_by-cons, sum_by-append}
use Rattle.std.proofs.lemmas.List.Elements.{All-head, All-tail, All-append, All-map, All-weaker}
use Rattle.tm_bits.specs.Rows.{Rows}
use Rattle.tm_circuit.specs.declared.circuit.CircuitFault.TheVariants.{TooMany, Range, BadName, RepeatedName, RepeatedOutput, Loop, NoMemory}
use Rattle.tm_circuit.specs.declared.parts.Clock.{Clock}
use Rattle.tm_circuit.specs.Plain.{Plain, Drive, input, latch, gate, is_input, is_latch, pins_of, input_count, latch_count, widest}
use Rattle.tm_circuit.specs.Sound.{IsSound, IsInRange, IsWellNamed, IsDistinctlyNamed, HasDistinctOutputs, ReadsBelow, FitsPins, IsClockOf, IsName, clock_name}
use Rattle.tm_split.specs.declared.piece.Piece.{Piece}
use Rattle.tm_split.specs.Pieces.{is_empty, pieces_of, wires_of, rows_of}
use Rattle.tm_parts.specs.Names.{all_names, HasNamesWithin}
use Rattle.tm_parts.specs.Runs.{HasRunsWithin}
use Rattle.tm_parts.specs.Fits.{FitsMapping, plus}
use Rattle.tm_parts.specs.Parts.{IsRefusedForMemory}
use Rattle.tm_parts.proofs.NameLemmas.{all_second, all_clock}
use Rattle.tm_parts.proofs.Measures.{runs_of_short}
use Rattle.tm_split.specs.Subject.{first_number, number, wire_number, gates_of, drives_for, in_places, drives_at, names_at, subject_of}
use Rattle.tm_split.proofs.Numbers.{length-subject_of}
use Rattle.tm_split.proofs.Places.{number_below, number_rises}
use Rattle.tm_split.proofs.Shapes.{IsFine, subject_fine}
use Rattle.tm_split.proofs.Spelling.{IsFineName, subject_names_fine, subject_distinct}
use Rattle.tm_split.proofs.Ranks.{subject_no_circle}

-- ---- kinds counted

-- A kind of drive that no gate is of, and that does not hang on the next of a latch.
pub record IsKind (test : Drive → Bool) : Type 0 where
  pub gates : (pins : List ℕ) (cover : Rows) → test (gate pins cover) ≡ false
  pub latches : (m n : ℕ) (init : Bool) → test (latch m init) ≡ test (latch n init)

count_gate : (test : Drive → Bool) → IsKind test → (pins : List ℕ) (cover : Rows) (rest : List Drive)
    → count_by test (gate pins cover ∷ rest) ≡ count_by test rest
count_gate test kind pins cover rest =
    let none : cond {A = ℕ} (test (gate pins cover)) 1 0 ≡ 0 = ap (λ b. cond b 1 0) (kind.gates pins cover) in
    sum_by-cons (λ x. cond (test x) 1 0) (gate pins cover) rest ∙ (ap (λ n. n + count_by test rest) none ∙ zero-add (count_by test rest))

no_gates : (test : Drive → Bool) → IsKind test → (on : Bool) (f : ℕ → ℕ) (first : ℕ) (pieces : List Piece)
    → count_by test (gates_of on f first pieces) ≡ 0
no_gates test kind on f first [] = refl
no_gates test kind on f first (piece ∷ rest) =
    count_gate test kind (map (wire_number f first) (wires_of piece)) (record { on = if is_empty rest then on else true; rows = rows_of piece }) (gates_of on f first rest) ∙ no_gates test kind on f first rest

by_wide : (test : Drive → Bool) → IsKind test → (wide on : Bool) (f : ℕ → ℕ) (first : ℕ) (pieces : List Piece) (moved pins : List ℕ) (cover : Rows)
    → count_by test (cond wide (gates_of on f first pieces) (gate moved cover ∷ [])) ≡ count_by test (gate pins cover ∷ [])
by_wide test kind true on f first pieces moved pins cover = no_gates test kind on f first pieces ∙ sym (count_gate test kind pins cover [])
by_wide test kind false on f first pieces moved pins cover = count_gate test kind moved cover [] ∙ sym (count_gate test kind pins cover [])

count_for : (test : Drive → Bool) → IsKind test → (k : ℕ) (f : ℕ → ℕ) (first : ℕ) (d : Drive)
    → count_by test (drives_for k f first d) ≡ count_by test (d ∷ [])
count_for test kind k f first input = refl
count_for test kind k f first (latch next init) = ap (λ b. 0 + cond b 1 0) (kind.latches (f next) next init)
count_for test kind k f first (gate pins cover) = by_wide test kind (ltb k (length pins)) cover.on f first (pieces_of pins cover) (map f pins) pins cover

pub count_places : (test : Drive → Bool) → IsKind test → (k : ℕ) (c : Plain) (t : ℕ) (ds : List Drive)
    → count_by test (in_places (drives_at k c) t ds) ≡ count_by test ds
count_places test kind k c t [] = refl
count_places test kind k c t (d ∷ ds) =
    let both : count_by test (drives_at k c t d ++ in_places (drives_at k c) (suc t) ds) ≡ count_by test (drives_at k c t d) + count_by test (in_places (drives_at k c) (suc t) ds) =
    sum_by-append (λ x. cond (test x) 1 0) (drives_at k c t d) (in_places (drives_at k c) (suc t) ds) in
    let here : count_by test (drives_at k c t d) ≡ count_by test (d ∷ []) = count_for test kind k (number k c.drives) (first_number k c.drives t) d in
    let rest : count_by test (in_places (drives_at k c) (suc t) ds) ≡ count_by test ds = count_places test kind k c (suc t) ds in
    let split : count_by test (d ∷ ds) ≡ cond (test d) 1 0 + count_by test ds = sum_by-cons (λ x. cond (test x) 1 0) d ds in
    let alone : count_by test (d ∷ []) ≡ cond (test d) 1 0 + count_by test [] = sum_by-cons (λ x. cond (test x) 1 0) d [] in
    let none : count_by test [] ≡ 0 = refl in
    omega arith

input_kind : IsKind is_input
input_kind = record { gates = λ pins cover. refl; latches = λ m n init. refl }

latch_kind : IsKind is_latch
latch_kind = record { gates = λ pins cover. refl; latches = λ m n init. refl }

pub subject_inputs_count : (k : ℕ) (c : Plain) → input_count (subject_of k c).drives ≡ input_count c.drives
unfolding subject_of
subject_inputs_count k c = count_places is_input input_kind k c 0 c.drives

pub subject_latches_count : (k : ℕ) (c : Plain) → latch_count (subject_of k c).drives ≡ latch_count c.drives
unfolding subject_of
subject_latches_count k c = count_places is_latch latch_kind k c 0 c.drives

-- ---- outputs

moved_below : (k : ℕ) (c : Plain) → All (λ s. s < length c.drives) c.outputs
    → All (λ s. s < first_number k c.drives (length c.drives)) (map (number k c.drives) c.outputs)
moved_below k c below =
    All-map (λ s. s < first_number k c.drives (length c.drives)) (number k c.drives) c.outputs
    (All-weaker (λ s. s < length c.drives) (λ s. number k c.drives s < first_number k c.drives (length c.drives)) (number_below k c.drives) c.outputs below)

number_apart : (k : ℕ) (drives : List Drive) (s t : ℕ) → (s ≡ t → ⊥) → number k drives s ≡ number k drives t → ⊥
number_apart k drives s t differ same =
    elim (cases_lt s t) [
      | inl less ↦
          let rises : number k drives s < number k drives t = number_rises k drives s t less in
          omega arith
      | inr more ↦ elim (cases_lt t s) [
        | inl greater ↦
            let rises : number k drives t < number k drives s = number_rises k drives t s greater in
            omega arith
        | inr equal ↦
            let one : s ≡ t = omega arith in
            differ one
      ]
    ]

outputs_distinct : (k : ℕ) (drives : List Drive) (outputs : List ℕ) → AllPairs (λ a b. a ≢ b) outputs
    → AllPairs (λ a b. a ≢ b) (map (number k drives) outputs)
outputs_distinct k drives outputs distinct i j d less within same =
    let size : length (map (number k drives) outputs) ≡ length outputs = length-map outputs (number k drives) in
    let at_i : get_or (map (number k drives) outputs) i d ≡ number k drives (get_or outputs i d) = get_or-map (number k drives) outputs i d d (omega arith) in
    let at_j : get_or (map (number k drives) outputs) j d ≡ number k drives (get_or outputs j d) = get_or-map (number k drives) outputs j d d (omega arith) in
    number_apart k drives (get_or outputs i d) (get_or outputs j d) (distinct i j d less (omega arith)) (sym at_i ∙ (same ∙ at_j))

-- ---- the circuit

-- What the splitter asks of a circuit.
pub record IsSplittable (k : ℕ) (c : Plain) : Type 0 where
  pub sound : IsSound c
  pub least : 2 ≤ k
  pub names : HasNamesWithin 255 c
  pub few : length (subject_of k c).drives ≤ 100000

fine : (k : ℕ) (c : Plain) → IsSplittable k c → All (IsFine (length (subject_of k c).drives) k) (subject_of k c).drives
fine k c is = subject_fine k c is.least is.sound.range.reads is.sound.range.pins

few_first : (k : ℕ) (c : Plain) → IsSplittable k c → first_number k c.drives (length c.drives) ≤ 100000
few_first k c is = subst (λ (n : ℕ). n ≤ 100000) (length-subject_of k c) is.few

outputs_in_range : (k : ℕ) (c : Plain) → All (λ s. s < length c.drives) c.outputs
    → All (λ s. s < length (subject_of k c).drives) (subject_of k c).outputs
unfolding subject_of
outputs_in_range k c below =
    subst (λ (n : ℕ). All (λ s. s < n) (map (number k c.drives) c.outputs)) (sym (length-subject_of k c)) (moved_below k c below)

clock_in_range : (k : ℕ) (c : Plain) → IfSome c.clock (IsClockOf (input_count c.drives) (latch_count c.drives))
    → IfSome (subject_of k c).clock (IsClockOf (input_count (subject_of k c).drives) (latch_count (subject_of k c).drives))
unfolding subject_of
clock_in_range k c clock =
    subst (λ (n : ℕ). IfSome c.clock (IsClockOf n (latch_count (subject_of k c).drives))) (sym (subject_inputs_count k c))
    (subst (λ (n : ℕ). IfSome c.clock (IsClockOf (input_count c.drives) n)) (sym (subject_latches_count k c)) clock)

pub in_range : (k : ℕ) (c : Plain) → IsSplittable k c → IsInRange (subject_of k c)
in_range k c is =
    let bound : ℕ = length (subject_of k c).drives in
    record {
      reads = All-weaker (IsFine (length (subject_of k c).drives) k) (ReadsBelow (length (subject_of k c).drives)) (λ d f. f.reads) (subject_of k c).drives (fine k c is);
      pins = All-weaker (IsFine (length (subject_of k c).drives) k) FitsPins (λ d f. f.fits) (subject_of k c).drives (fine k c is);
      outputs = outputs_in_range k c is.sound.range.outputs;
      clock = clock_in_range k c is.sound.range.clock;
    }

fine_names : (k : ℕ) (c : Plain) → IsSplittable k c → All IsFineName (in_places (names_at k c) 0 c.drives)
fine_names k c is = subject_names_fine k c is.names is.sound.names.signals is.sound.named (few_first k c is)

well_named : (k : ℕ) (c : Plain) → IsSplittable k c → IsWellNamed (subject_of k c)
unfolding subject_of
well_named k c is = record {
  model = is.sound.names.model;
  signals = All-weaker IsFineName IsName (λ n f. f.lawful) (in_places (names_at k c) 0 c.drives) (fine_names k c is);
  clock = is.sound.names.clock;
}

distinctly_named : (k : ℕ) (c : Plain) → IsSplittable k c → IsDistinctlyNamed (subject_of k c)
unfolding subject_of
distinctly_named k c is = subject_distinct k c (record { named = is.sound.named; distinct = is.sound.distinct }) (few_first k c is)

distinct_outputs : (k : ℕ) (c : Plain) → IsSplittable k c → HasDistinctOutputs (subject_of k c)
unfolding subject_of
distinct_outputs k c is = outputs_distinct k c.drives c.outputs is.sound.outputs

-- The subject circuit is refused for no reason but want of memory.
pub refused_for_memory : (k : ℕ) (c : Plain) → IsSplittable k c → IsRefusedForMemory (subject_of k c)
refused_for_memory k c is TooMany built =
    let few : length (subject_of k c).drives ≤ 100000 = is.few in
    let many : 900000 < length (subject_of k c).drives = built in
    absurd (omega arith)
refused_for_memory k c is Range built = absurd (built.1 (in_range k c is))
refused_for_memory k c is BadName built = absurd (built.2 (well_named k c is))
refused_for_memory k c is RepeatedName built = absurd (built.3 (distinctly_named k c is))
refused_for_memory k c is RepeatedOutput built = absurd (built.4 (distinct_outputs k c is))
refused_for_memory k c is Loop built = absurd (subject_no_circle k c is.sound built.5)
refused_for_memory k c is NoMemory built = refl

-- ---- what else is said of it

widest_most : (ds : List Drive) (k : ℕ) → All (λ d. length (pins_of d) ≤ k) ds → widest ds ≤ k
widest_most [] k narrow = omega arith
widest_most (d ∷ ds) k narrow =
    let here : length (pins_of d) ≤ k = All-head (λ e. length (pins_of e) ≤ k) d ds narrow in
    let rest : widest ds ≤ k = widest_most ds k (All-tail (λ e. length (pins_of e) ≤ k) d ds narrow) in
    omega arith

pub subject_narrow : (k : ℕ) (c : Plain) → IsSplittable k c → widest (subject_of k c).drives ≤ k
subject_narrow k c is =
    widest_most (subject_of k c).drives k (All-weaker (IsFine (length (subject_of k c).drives) k) (λ d. length (pins_of d) ≤ k) (λ d f. f.narrow) (subject_of k c).drives (fine k c is))

pub subject_names_short : (k : ℕ) (c : Plain) → IsSplittable k c → HasNamesWithin 517 (subject_of k c)
unfolding subject_of
subject_names_short k c is =
    All-append (λ n. length n ≤ 517) (in_places (names_at k c) 0 c.drives) (clock_name c.clock)
    (All-weaker IsFineName (λ n. length n ≤ 517) (λ n f. f.short) (in_places (names_at k c) 0 c.drives) (fine_names k c is))
    (All-weaker (λ n. length n ≤ 255) (λ n. length n ≤ 517) (λ n less. omega arith) (clock_name c.clock) (all_second (λ n. length n ≤ 255) c.names (clock_name c.clock) is.names))

short_clock : (clock : Option Clock) → All (λ n. length n ≤ 255) (clock_name clock) → IfSome clock (λ k. length k.name ≤ 255)
short_clock None short = tt
short_clock (Some k) short = All-head (λ n. length n ≤ 255) k.name [] short

subject_runs : (k : ℕ) (c : Plain) → IsSplittable k c → All (HasRunsWithin plus 255) (all_names (subject_of k c))
unfolding subject_of
subject_runs k c is =
    All-append (HasRunsWithin plus 255) (in_places (names_at k c) 0 c.drives) (clock_name c.clock)
    (All-weaker IsFineName (HasRunsWithin plus 255) (λ n f. f.runs) (in_places (names_at k c) 0 c.drives) (fine_names k c is))
    (All-weaker (λ n. length n ≤ 255) (HasRunsWithin plus 255) (λ n short. runs_of_short plus 255 n short) (clock_name c.clock) (all_second (λ n. length n ≤ 255) c.names (clock_name c.clock) is.names))

subject_clock : (k : ℕ) (c : Plain) → IsSplittable k c → IfSome (subject_of k c).clock (λ clock. length clock.name ≤ 255)
unfolding subject_of
subject_clock k c is = short_clock c.clock (all_second (λ n. length n ≤ 255) c.names (clock_name c.clock) is.names)

-- The subject circuit can be mapped.
pub subject_fits : (k : ℕ) (c : Plain) → IsSplittable k c → FitsMapping (subject_of k c)
subject_fits k c is = record {
  few = is.few;
  names = subject_names_short k c is;
  runs = subject_runs k c is;
  clock = subject_clock k c is;
}
