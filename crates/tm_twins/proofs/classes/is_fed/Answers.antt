use Rattle.std.proofs.Common.{◌≡◌, ◌∙◌, ⊎_elim, true, ap, refl, subst}
use Rattle.tm_circuit.specs.Plain.{drive_of, drive_in, is_latch}
use Rattle.tm_circuit.specs.Source.{IsSource}
use Rattle.tm_twins.proofs.ClassLemmas.{fed_from_input, fed_from_gate, unfed_from_ring}
use Rattle.tm_twins.proofs.classes.is_fed.Goals as goal

pub returns-in-Input-source : goal.returns-in-Input-source
returns-in-Input-source c =
    let drives = c.args.circuit.now.drives in
    let is : is_latch (drive_in drives c.args.s) ≡ true = ap is_latch (c.driver.ensures.drive ∙ ap drive_of c.in-Latch.is) in (
      (λ _. ⊎_elim (λ h. fed_from_input drives c.args.s h.0 is (subst (λ e. IsSource drives c.args.s e) h.1 c.source.ensures))
          (λ h. fed_from_gate drives c.args.s h.0 is (subst (λ e. IsSource drives c.args.s e) h.1 c.source.ensures)) c.in-Input-source.is),
      (λ _. refl),
    )

pub returns-in-Ring : goal.returns-in-Ring
returns-in-Ring c =
    let drives = c.args.circuit.now.drives in (
      (λ h. absurd (cc)),
      (λ fed. absurd (unfed_from_ring drives c.args.s (subst (λ e. IsSource drives c.args.s e) c.in-Ring.is c.source.ensures) fed)),
    )
