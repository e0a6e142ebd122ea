-- How the tests of tables and outputs, place by place, make a mapping lawful, and how far they can come.
use Rattle.std.proofs.Common.{◌≡◌, ℕ, zero, suc, ◌<◌, ◌≤◌, inl, inr, false, List, length, Some, refl, sym, ap, subst, arith}
use Rattle.std.specs.Prelude.{slice_get}
use Rattle.std.proofs.lemmas.Bool.{cases_lt}
use Rattle.std.proofs.lemmas.List.{get_or_past}
use Rattle.tm_circuit.specs.Plain.{Plain, Drive, latch, drive_in, is_gate}
use Rattle.tm_circuit.specs.Chain.{IsGate}
use Rattle.tm_circuit.specs.Sound.{IsSound}
use Rattle.tm_unroll.specs.Mappings.{Table, IsLawfulFrom, HasSourceTable}
use Rattle.tm_unroll.specs.Faults.{Passes, PassBelow, AreGivenBelow}
use Rattle.tm_unroll.proofs.ListLemmas.{at-within, some-at, one-at, place-of, pairs-from_next, apart_from_pairs, few_below}

-- A gate is a signal.
pub gate_within : (drives : List Drive) (g : ℕ) → IsGate drives g → g < length drives
gate_within drives g is =
    elim (cases_lt g (length drives)) [
      | inl within ↦ within
      | inr past ↦
          let far : drive_in drives g ≡ latch g false = get_or_past drives g (latch g false) past in
          let none : is_gate (drive_in drives g) ≡ false = ap is_gate far in
          absurd cc
    ]

-- Where the tables below a place pass, and the one at it, those below the next place pass.
pub pass_more : (base : ℕ) (c : Plain) (k d : ℕ) (tables : List Table) (places : ℕ) (t : Table) → PassBelow base c k d tables places
    → slice_get tables places ≡ Some t → Passes base c k d tables places t → PassBelow base c k d tables (suc places)
pass_more base c k d tables places t before at passes place u inside is =
    elim (cases_lt place places) [
      | inl lower ↦ before place u lower is
      | inr high ↦
          let same : places ≡ place = omega arith in
          let there : slice_get tables places ≡ Some u = subst (λ n. slice_get tables n ≡ Some u) (sym same) is in
          let table : t ≡ u = one-at tables places t u at there in
          subst (λ (v : Table). Passes base c k d tables place v) table (subst (λ n. Passes base c k d tables n t) same passes)
    ]

-- The same of the outputs.
pub given_more : (need : ℕ → ℕ) (c : Plain) (tables : List Table) (places s : ℕ) → AreGivenBelow need c tables places
    → slice_get c.outputs places ≡ Some s → HasSourceTable c.drives tables s (need s) → AreGivenBelow need c tables (suc places)
given_more need c tables places s before at given place r inside is =
    elim (cases_lt place places) [
      | inl lower ↦ before place r lower is
      | inr high ↦
          let same : places ≡ place = omega arith in
          let there : slice_get c.outputs places ≡ Some r = subst (λ n. slice_get c.outputs n ≡ Some r) (sym same) is in
          let output : s ≡ r = one-at c.outputs places s r at there in
          subst (λ n. HasSourceTable c.drives tables n (need n)) output given
    ]

-- A mapping whose tables all pass and whose outputs have their tables is lawful.
pub lawful_from_passes : (base : ℕ) (need : ℕ → ℕ) (c : Plain) (k d : ℕ) (tables : List Table) → PassBelow base c k d tables (length tables)
    → AreGivenBelow need c tables (length c.outputs) → IsLawfulFrom base need c k d tables
lawful_from_passes base need c k d tables passed given = record {
  ascending = pairs-from_next (λ (t : Table) (u : Table). t.gate < u.gate) (λ t u v first second. omega arith) tables (λ place t u at after. (passed (suc place) u (at-within tables (suc place) u after) after).placed.after place t refl at);
  each = λ t stands.
      let place = place-of tables t stands in
      let passes = passed place.0 t (at-within tables place.0 t place.1) place.1 in
      record { gate = passes.placed.gate; lag = passes.placed.lag; leaves = passes.leaves; covers = passes.covers; served = passes.served };
  outputs = λ s stands.
      let place = place-of c.outputs s stands in
      given place.0 s (at-within c.outputs place.0 s place.1) place.1;
}

-- The gate of a table that passes is at least its place, since the gates before it ascend.
gate_high : (base : ℕ) (c : Plain) (k d : ℕ) (tables : List Table) (places : ℕ) → PassBelow base c k d tables places
    → (place : ℕ) (t : Table) → place < places → slice_get tables place ≡ Some t → place ≤ t.gate
gate_high base c k d tables places passed zero t inside at = omega arith
gate_high base c k d tables places passed (suc before) t inside at =
    let within : suc before < length tables = at-within tables (suc before) t at in
    let b = some-at tables before (omega arith) in
    let ih = gate_high base c k d tables places passed before b.0 (omega arith) b.1 in
    let rises = (passed (suc before) t inside at).placed.after before b.0 refl b.1 in
    omega (arith, ih, rises)

-- No more tables pass than there are signals.
pub passes_few : (base : ℕ) (c : Plain) (k d : ℕ) (tables : List Table) (places : ℕ) → PassBelow base c k d tables places
    → places ≤ length tables → places ≤ length c.drives
passes_few base c k d tables zero passed inside = omega arith
passes_few base c k d tables (suc last) passed inside =
    let t = some-at tables last (omega arith) in
    let high = gate_high base c k d tables (suc last) passed last t.0 (omega arith) t.1 in
    let low = gate_within c.drives t.0.gate (passed last t.0 (omega arith) t.1).placed.gate in
    omega (arith, high, low)

-- A sound circuit has at most as many outputs as signals.
pub outputs_few : (c : Plain) → IsSound c → length c.outputs ≤ length c.drives
outputs_few c sound =
    few_below c.outputs (length c.drives) (apart_from_pairs (λ a b. ¬ (a ≡ b)) c.outputs (λ x differs. differs refl) sound.outputs) (λ x (k, inside, is). subst (λ s. s < length c.drives) is (sound.range.outputs k x inside))
