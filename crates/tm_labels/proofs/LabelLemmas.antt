-- Labels for a target: the first ones, and the one next below another.
use Rattle.std.proofs.Common.{◌≡◌, ℕ, zero, suc, ◌+◌, ◌≤◌, true, Option, Some, refl, sym, ◌∙◌, subst, arith}
use Rattle.std.specs.Prelude.{nat_lt}
use Rattle.std.proofs.lemmas.Bool.{cond_both, ltb-true}
use Rattle.tm_circuit.specs.Plain.{Plain, Drive, input, latch, gate, drive_in, is_gate}
use Rattle.tm_replay.specs.declared.label.Label.{Label}
use Rattle.tm_replay.specs.Labels.{label, below_lag, next_below, first_label, first_labels, IsLabelFor}
use Rattle.tm_replay.proofs.RefutationLemmas.{label_first}
use Rattle.tm_labels.specs.Keeping.{FitLabels}

-- A label for a target from its numbers.
for_numbers : (d target lag arrival : ℕ) → lag ≤ d → 1 ≤ arrival → arrival ≤ target → (x : Label) → Some (label lag arrival) ≡ Some x → IsLabelFor d target x
for_numbers d target lag arrival low some most x is =
    let same : label lag arrival ≡ x = cc in
    subst (λ (y : Label). IsLabelFor d target y) same (record { lag = low; some = some; most = most })

below_fits : (d target lag : ℕ) → lag ≤ d → 1 ≤ target → (x : Label) → below_lag lag ≡ Some x → IsLabelFor d target x
below_fits d target zero low some x is = cc
below_fits d target (suc less) low some x is = for_numbers d target less 1 (omega arith) (omega arith) some x is

-- What is next below a label for a target is one.
pub next_fits : (d target lag arrival : ℕ) → lag ≤ d → 1 ≤ arrival → arrival ≤ target → (x : Label) → next_below target (label lag arrival) ≡ Some x → IsLabelFor d target x
next_fits d target lag arrival low some most =
    cond_both (nat_lt arrival target) (Some (label lag (arrival + 1))) (below_lag lag) (λ (y : Option Label). (x : Label) → y ≡ Some x → IsLabelFor d target x)
    (λ early. let h = ltb-true arrival target early in for_numbers d target lag (arrival + 1) low (omega arith) (omega arith))
    (λ late. below_fits d target lag low (omega arith))

first_fits : (d target : ℕ) (dr : Drive) (x : Label) → first_label d target dr ≡ Some x → (is_gate dr ≡ true) × IsLabelFor d target x
first_fits d target input x is = cc
first_fits d target (latch next init) x is = cc
first_fits d zero (gate pins cover) x is = cc
first_fits d (suc less) (gate pins cover) x is = (refl, for_numbers d (suc less) d 1 (omega arith) (omega arith) (omega arith) x is)

-- The first labels are those of gates, for the target.
pub first_labels_fit : (c : Plain) (d target : ℕ) → FitLabels c d target (first_labels c.drives d target)
first_labels_fit c d target g x has = first_fits d target (drive_in c.drives g) x (sym (label_first d target c.drives g) ∙ has)
