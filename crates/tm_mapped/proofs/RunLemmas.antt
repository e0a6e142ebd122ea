-- A table of bits that obeys a circuit for ever, read by the nodes of the mapped circuit, obeys the mapped circuit.
use Rattle.std.proofs.Common.{◌≡◌, ℕ, zero, suc, ◌+◌, ◌<◌, ◌≤◌, Bool, false, cond, List, [], ◌∷◌, map, length, Some, None, slice_get, refl, sym, ◌∙◌, ap, subst, arith}
use Rattle.std.proofs.lemmas.List.{length-map}
use Rattle.std.proofs.lemmas.List.Sums.{sum_by-cons}
use Rattle.tm_bits.specs.Tables.{bit_of, row_number}
use Rattle.tm_circuit.specs.Plain.{Plain, Drive, input, latch, gate, drive, drive_in, is_latch, input_count}
use Rattle.tm_circuit.specs.Trace.{driven, ObeysAlways}
use Rattle.tm_circuit.specs.Sound.{IsSound}
use Rattle.tm_circuit.proofs.Traces.{has_one_run}
use Rattle.tm_unroll.specs.declared.node.Node.{Node}
use Rattle.tm_unroll.specs.Nodes.{node_at}
use Rattle.tm_unroll.specs.Mappings.{Table, root, IsLawful}
use Rattle.tm_unroll.proofs.LagLemmas.{lags_paid}
use Rattle.tm_init.specs.Paths.{IsPathBack, latches_on, IsFreeOfInputs, zeros}
use Rattle.tm_init.proofs.FreeLemmas.{one_bit}
use Rattle.tm_cone.specs.Cones.{asked_of, Evaluates}
use Rattle.tm_mapped.specs.Needed.{HasTablePast, nodes_of}
use Rattle.tm_mapped.specs.Mapped.{IsFirstBit, ByValues, IsTableDrive, IsMappedBy}
use Rattle.tm_mapped.specs.Moved.{bit_ahead, moved}
use Rattle.tm_mapped.proofs.NodeLemmas.{is_input_at}
use Rattle.tm_mapped.proofs.DriveLemmas.{IsKept, IsMoved, IsDriven, as_input, as_kept, as_moved, as_table, as_none, driven_as}

-- ---- the bits of nodes at a step

-- The bits of all nodes at a step.
pub ahead : (ℕ → ℕ → Bool) → ℕ → Node → Bool
ahead t step x = t x.signal (step + x.advance)

asked_ahead : (d : Drive) (given : Bool) (t : ℕ → ℕ → Bool) (step a : ℕ) (own : Bool) → own ≡ driven d given t (step + a)
    → own ≡ asked_of d a (λ x. t x.signal (step + x.advance)) own
asked_ahead input given t step a own is = refl
asked_ahead (latch next init) given t step zero own is = refl
asked_ahead (latch next init) given t step (suc less) own is =
    let e : step + suc less ≡ suc (step + less) = omega arith in
    is ∙ ap (λ n. driven (latch next init) given t n) e
asked_ahead (gate pins cover) given t step a own is = is

-- Each node has the bit that it asks for, whatever the leaves are.
pub ahead_evaluates : (c : Plain) (given t : ℕ → ℕ → Bool) (leaves : List Node) (step : ℕ) → ObeysAlways c given t → Evaluates c.drives leaves (ahead t step)
unfolding ahead
ahead_evaluates c given t leaves step obeys x other =
    asked_ahead (drive c x.signal) (given x.signal (step + x.advance)) t step x.advance (t x.signal (step + x.advance)) (obeys x.signal (step + x.advance))

-- The bits of the pins are those of the leaves for which they stand.
pins_ahead : (t : ℕ → ℕ → Bool) (step : ℕ) (all : List Node) (pins : List ℕ) (leaves : List Node) → map (λ p. slice_get all p) pins ≡ map (λ x. Some x) leaves
    → map (λ p. moved all t p step) pins ≡ map (ahead t step) leaves
unfolding ahead
pins_ahead t step all [] [] same = refl
pins_ahead t step all [] (x ∷ leaves) same = cc
pins_ahead t step all (p ∷ pins) [] same = cc
pins_ahead t step all (p ∷ pins) (x ∷ leaves) same =
    let here : slice_get all p ≡ Some x = cc in
    let rest : map (λ p. slice_get all p) pins ≡ map (λ x. Some x) leaves = cc in
    let first = ap (bit_ahead t step) here in
    let later = pins_ahead t step all pins leaves rest in
    cc

pub same_long : (all : List Node) (pins : List ℕ) (leaves : List Node) → map (λ p. slice_get all p) pins ≡ map (λ x. Some x) leaves → length pins ≡ length leaves
same_long all pins leaves same = sym (length-map pins (λ p. slice_get all p)) ∙ (ap length same ∙ length-map leaves (λ x. Some x))

-- ---- the start of a moved register

-- Before the lag of its table a gate's bit does not depend on the inputs.
free_before : (c : Plain) (k d : ℕ) (tables : List Table) → IsLawful c k d tables → (g a : ℕ) → HasTablePast tables g a → IsFreeOfInputs c.drives g a
free_before c k d tables lawful g a (t, stands, is, less) = record {
  paths = λ path back.
      let paid = lags_paid c k d tables lawful t path stands (subst (λ s. IsPathBack c.drives s path) (sym is) back) in
      let counted = more_latches path in
      omega (arith, less, paid, counted);
}
  where
    more_latches : (path : List ℕ) → latches_on c.drives path ≤ latches_on c.drives (g ∷ path)
    more_latches path =
        let e = sum_by-cons (λ p. cond (is_latch (drive_in c.drives p)) 1 0) g path in
        omega (arith, e)

first_bit : (c : Plain) (k d : ℕ) (tables : List Table) → IsSound c → IsLawful c k d tables → (given t : ℕ → ℕ → Bool) → ObeysAlways c given t
    → (g a : ℕ) (init : Bool) → HasTablePast tables g a → IsFirstBit c g a init → t g a ≡ init
first_bit c k d tables sound lawful given t obeys g a init past first =
    let (u, obeys_u) = (has_one_run c sound).some zeros in
    (one_bit c g a sound (free_before c k d tables lawful g a past)).runs given zeros t u obeys obeys_u ∙ first u obeys_u

-- ---- the mapped circuit

module _ (c : Plain) (k d : ℕ) (tables : List Table) (mapped : Plain) (sound : IsSound c) (lawful : IsLawful c k d tables)
    (by : IsMappedBy ByValues c tables mapped) (given t : ℕ → ℕ → Bool) (obeys : ObeysAlways c given t)
  where
    kept_obeys : (i step : ℕ) (x : Node) → slice_get (nodes_of c by.registers tables) i ≡ Some x → IsKept c (nodes_of c by.registers tables) x (drive mapped i)
        → moved (nodes_of c by.registers tables) t i step ≡ driven (drive mapped i) (given i step) (moved (nodes_of c by.registers tables) t) step
    kept_obeys i zero x at kept =
        let now : zero + x.advance ≡ zero = let e = kept.now in omega (arith, e) in
        ap (bit_ahead t zero) at
        ∙ (ap (t x.signal) now
        ∙ (obeys x.signal zero
        ∙ (ap (λ e. driven e (given x.signal zero) t zero) kept.was
        ∙ sym (ap (λ e. driven e (given i zero) (moved (nodes_of c by.registers tables) t) zero) kept.is))))
    kept_obeys i (suc before) x at kept =
        let now : suc before + x.advance ≡ suc before = let e = kept.now in omega (arith, e) in
        let next : before + 0 ≡ before = omega arith in
        ap (bit_ahead t (suc before)) at
        ∙ (ap (t x.signal) now
        ∙ (obeys x.signal (suc before)
        ∙ (ap (λ e. driven e (given x.signal (suc before)) t (suc before)) kept.was
        ∙ (sym (ap (bit_ahead t before) kept.stands ∙ ap (t kept.next) next)
        ∙ sym (ap (λ e. driven e (given i (suc before)) (moved (nodes_of c by.registers tables) t) (suc before)) kept.is)))))

    moved_obeys : (i step : ℕ) (x : Node) → slice_get (nodes_of c by.registers tables) i ≡ Some x → IsMoved c (nodes_of c by.registers tables) tables x (drive mapped i)
        → moved (nodes_of c by.registers tables) t i step ≡ driven (drive mapped i) (given i step) (moved (nodes_of c by.registers tables) t) step
    moved_obeys i zero x at is =
        let start : zero + x.advance ≡ x.advance = omega arith in
        ap (bit_ahead t zero) at
        ∙ (ap (t x.signal) start
        ∙ (first_bit c k d tables sound lawful given t obeys x.signal x.advance is.init is.past is.first
        ∙ sym (ap (λ e. driven e (given i zero) (moved (nodes_of c by.registers tables) t) zero) is.is)))
    moved_obeys i (suc before) x at is =
        let later : suc before + x.advance ≡ before + suc x.advance = omega arith in
        ap (bit_ahead t (suc before)) at
        ∙ (ap (t x.signal) later
        ∙ (sym (ap (bit_ahead t before) is.stands)
        ∙ sym (ap (λ e. driven e (given i (suc before)) (moved (nodes_of c by.registers tables) t) (suc before)) is.is)))

    table_obeys : (i step : ℕ) (u : Table) → slice_get (nodes_of c by.registers tables) i ≡ Some (root u)
        → IsTableDrive ByValues c (nodes_of c by.registers tables) u (drive mapped i)
        → moved (nodes_of c by.registers tables) t i step ≡ driven (drive mapped i) (given i step) (moved (nodes_of c by.registers tables) t) step
    unfolding ahead
    table_obeys i step u at is =
        let bits = pins_ahead t step (nodes_of c by.registers tables) is.pins u.leaves is.leaves in
        let long : length (map (λ p. moved (nodes_of c by.registers tables) t p step) is.pins) ≡ length u.leaves =
        length-map is.pins (λ p. moved (nodes_of c by.registers tables) t p step) ∙ same_long (nodes_of c by.registers tables) is.pins u.leaves is.leaves in
        ap (bit_ahead t step) at
        ∙ (is.function (ahead t step) (ahead_evaluates c given t u.leaves step obeys)
        ∙ (ap (λ bs. bit_of is.words (row_number bs)) (sym bits)
        ∙ (sym (is.covers (map (λ p. moved (nodes_of c by.registers tables) t p step) is.pins) long)
        ∙ sym (ap (λ e. driven e (given i step) (moved (nodes_of c by.registers tables) t) step) is.is))))

    input_obeys : (i step : ℕ) → i < input_count c.drives → slice_get (nodes_of c by.registers tables) i ≡ Some (node_at 0 i) → drive mapped i ≡ input
        → moved (nodes_of c by.registers tables) t i step ≡ driven (drive mapped i) (given i step) (moved (nodes_of c by.registers tables) t) step
    input_obeys i step low at is =
        let now : step + 0 ≡ step = omega arith in
        ap (bit_ahead t step) at
        ∙ (ap (t i) now
        ∙ (obeys i step
        ∙ (ap (λ e. driven e (given i step) t step) (is_input_at c sound i low)
        ∙ sym (ap (λ e. driven e (given i step) (moved (nodes_of c by.registers tables) t) step) is))))

    none_obeys : (i step : ℕ) → slice_get (nodes_of c by.registers tables) i ≡ None → drive mapped i ≡ latch i false
        → moved (nodes_of c by.registers tables) t i step ≡ driven (drive mapped i) (given i step) (moved (nodes_of c by.registers tables) t) step
    none_obeys i zero none is =
        ap (bit_ahead t zero) none ∙ sym (ap (λ e. driven e (given i zero) (moved (nodes_of c by.registers tables) t) zero) is)
    none_obeys i (suc before) none is =
        ap (bit_ahead t (suc before)) none
        ∙ (sym (ap (bit_ahead t before) none) ∙ sym (ap (λ e. driven e (given i (suc before)) (moved (nodes_of c by.registers tables) t) (suc before)) is))

    pub moved_run_obeys : ObeysAlways mapped given (moved (nodes_of c by.registers tables) t)
    moved_run_obeys i step = by_kind (driven_as ByValues c tables mapped by i)
      where
        by_kind : IsDriven ByValues c by.registers tables mapped i
            → moved (nodes_of c by.registers tables) t i step ≡ driven (drive mapped i) (given i step) (moved (nodes_of c by.registers tables) t) step
        by_kind (as_input low at is) = input_obeys i step low at is
        by_kind (as_kept x at kept) = kept_obeys i step x at kept
        by_kind (as_moved x at is) = moved_obeys i step x at is
        by_kind (as_table u stands at is) = table_obeys i step u at is
        by_kind (as_none none is) = none_obeys i step none is
