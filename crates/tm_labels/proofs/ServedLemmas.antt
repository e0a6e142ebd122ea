-- Which nodes a label serves: where one label changes, those alone may be served otherwise that have its gate as their source.
use Rattle.std.proofs.Common.{◌≡◌, ◌≢◌, ℕ, inl, inr, Bool, true, false, List, Option, None, refl, ◌∙◌, ap, subst}
use Rattle.std.specs.Prelude.{is_some, nat_eq, slice_set}
use Rattle.std.proofs.lemmas.Bool.{cases_eq, and_parts, and_cases, both_ways, eqb-true}
use Rattle.std.proofs.lemmas.List.{get_or-set_other}
use Rattle.tm_circuit.specs.Plain.{Plain, Drive, input, latch, gate, drive_in, is_latch, is_gate}
use Rattle.tm_circuit.specs.Sound.{IsSound}
use Rattle.tm_circuit.specs.Source.{IsSource}
use Rattle.tm_circuit.specs.declared.sources.Source.{Source}
use Rattle.tm_circuit.specs.declared.sources.Source.TheVariants.{Input, Gate, Ring}
use Rattle.tm_unroll.specs.declared.node.Node.{Node}
use Rattle.tm_replay.specs.declared.label.Label.{Label}
use Rattle.tm_replay.specs.Labels.{label_in}
use Rattle.tm_replay.specs.Served.{source_of, label_serves, source_serves, is_served_of, is_served}
use Rattle.tm_replay.proofs.SourceLemmas.{source_is}
use Rattle.tm_labels.specs.Working.{LooksAt}

-- The label of another gate stays.
pub label_other : (labels : List (Option Label)) (u g : ℕ) (v : Option Label) → g ≢ u → label_in (slice_set labels u v) g ≡ label_in labels g
label_other labels u g v differs = get_or-set_other labels u g v None differs

module _ (base : ℕ) (c : Plain) (sound : IsSound c) (labels : List (Option Label)) (u : ℕ) (v : Option Label) (within : ℕ) where
  abbrev new : List (Option Label)
  new = slice_set labels u v

  -- A label that differs is that of the gate.
  gate_is : (g : ℕ) (P : Option Label → Bool) → P (label_in labels g) ≡ true → P (label_in new g) ≡ false → g ≡ u
  gate_is g P was lost =
      elim (cases_eq g u) [
        | inl same ↦ same
        | inr differs ↦ absurd (both_ways _ lost (ap P (label_other labels u g v differs) ∙ was))
      ]

  source_differs : (e : Source) → source_serves labels e ≡ true → source_serves new e ≡ false → e ≡ Gate u
  source_differs (Input s) was lost = absurd (both_ways _ lost refl)
  source_differs Ring was lost = absurd (both_ways _ lost refl)
  source_differs (Gate g) was lost = ap Gate (gate_is g (λ (x : Option Label). is_some x) was lost)

  by_drive : (y : Node) (d : Drive) → drive_in c.drives y.signal ≡ d → is_served_of base d c.drives labels within y ≡ true → is_served_of base d c.drives new within y ≡ false
      → IsSource c.drives y.signal (Gate u) × LooksAt c u y
  by_drive y input is was lost = absurd (both_ways _ lost was)
  by_drive y (latch next init) is was lost =
      let parts = and_parts (nat_eq y.advance 0) (source_serves labels (source_of c.drives y.signal)) was in
      elim (and_cases (nat_eq y.advance 0) (source_serves new (source_of c.drives y.signal)) lost) [
        | inl other ↦ absurd (both_ways _ other parts.0)
        | inr gone ↦
            let same = source_differs (source_of c.drives y.signal) parts.1 gone in
            let source = subst (λ (e : Source). IsSource c.drives y.signal e) same (source_is c sound y.signal) in
            (source, inr (ap is_latch is, eqb-true y.advance 0 parts.0, source))
      ]
  by_drive y (gate pins cover) is was lost =
      let same : y.signal ≡ u = gate_is y.signal (λ (x : Option Label). label_serves x y.advance within) was lost in
      (subst (λ g. IsSource c.drives y.signal (Gate g)) same (ap is_gate is, (0, refl)), inl same)

  pub served_differs : (y : Node) → is_served base c.drives labels within y ≡ true → is_served base c.drives new within y ≡ false
      → IsSource c.drives y.signal (Gate u) × LooksAt c u y
  served_differs y was lost = by_drive y (drive_in c.drives y.signal) refl was lost
