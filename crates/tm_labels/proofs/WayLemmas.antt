-- Steps towards an output, one after another.
use Rattle.std.proofs.Common.{◌≡◌, ℕ, ◌<◌, ◌≤◌, ◌⊎◌, inl, inr, List, length, get_or, set, refl, sym, ◌∙◌, ap, subst, replicate}
use Rattle.std.proofs.lemmas.Bool.{cases_eq, cases_lt}
use Rattle.std.proofs.lemmas.List.{get_or-set_same, get_or-set_other, length-set, get_or_past, length-replicate, get_or-replicate}
use Rattle.std.specs.Prelude.{Contains}
use Rattle.tm_circuit.specs.Plain.{Plain, drive, pins_of}
use Rattle.tm_circuit.specs.Source.{IsSource}
use Rattle.tm_circuit.specs.declared.sources.Source.{Source}
use Rattle.tm_circuit.specs.declared.sources.Source.TheVariants.{Gate}
use Rattle.tm_unroll.proofs.EachLemmas.{stands-at}
use Rattle.tm_labels.specs.Ways.{no_gate, step_in, IsStepOn, AreStepsOn}

-- No step yet.
pub steps_none : (c : Plain) (towards : List ℕ) → towards ≡ replicate (length c.drives) no_gate → AreStepsOn c towards
steps_none c towards none = record {
  sized = ap (λ (l : List ℕ). length l) none ∙ length-replicate (length c.drives) no_gate;
  steps = λ g. inl (ap (λ (l : List ℕ). step_in l g) none ∙ here g);
}
  where
    here : (g : ℕ) → step_in (replicate (length c.drives) no_gate) g ≡ no_gate
    here g =
        elim (cases_lt g (length c.drives)) [
          | inl below ↦ get_or-replicate (length c.drives) g no_gate no_gate below
          | inr past ↦ get_or_past (replicate (length c.drives) no_gate) g no_gate (subst (λ n. n ≤ g) (sym (length-replicate (length c.drives) no_gate)) past)
        ]

-- One step more.
pub steps_set : (c : Plain) (towards : List ℕ) (g to : ℕ) → g < length towards → AreStepsOn c towards → IsStepOn c g to → AreStepsOn c (set towards g to)
steps_set c towards g to within before step = record {
  sized = length-set towards g to ∙ before.sized;
  steps = λ h.
      elim (cases_eq h g) [
        | inl same ↦
            let here : step_in (set towards g to) h ≡ to = ap (λ i. get_or (set towards g to) i no_gate) same ∙ get_or-set_same towards g to no_gate within in
            inr (subst (λ t. IsStepOn c h t) (sym here) (subst (λ i. IsStepOn c i to) (sym same) step))
        | inr differs ↦
            let there : step_in (set towards g to) h ≡ step_in towards h = get_or-set_other towards g h to no_gate differs in
            subst (λ t. (t ≡ no_gate) ⊎ IsStepOn c h t) (sym there) (before.steps h)
      ];
}

-- From what a gate reads at some pin there is a step to the gate.
pub pin_step : (c : Plain) (to i p g : ℕ) (pins : List ℕ) (e : Source) → pins ≡ pins_of (drive c to) → i < length pins → p ≡ get_or pins i p → IsSource c.drives p e → e ≡ Gate g
    → IsStepOn c g to
pin_step c to i p g pins e are within at source is =
    inr (p, subst (λ (l : List ℕ). Contains l p) are (stands-at pins i p within at), subst (λ (s : Source). IsSource c.drives p s) is source)

-- From the source of an output there is a step to itself.
pub output_step : (c : Plain) (i o g : ℕ) (outputs : List ℕ) (e : Source) → outputs ≡ c.outputs → i < length outputs → o ≡ get_or outputs i o → IsSource c.drives o e → e ≡ Gate g
    → IsStepOn c g g
output_step c i o g outputs e are within at source is =
    inl (refl, (o, subst (λ (l : List ℕ). Contains l o) are (stands-at outputs i o within at), subst (λ (s : Source). IsSource c.drives o s) is source))
