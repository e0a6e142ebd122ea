-- Latch by latch.
use Rattle.std.proofs.Common.{◌≡◌, false, sym, ◌∙◌, ap, refl, inl, inr, arith}
use Rattle.tm_circuit.specs.Plain.{drive, drive_of, is_latch}
use Rattle.tm_unroll.specs.declared.node.Node.{Node}
use Rattle.tm_unroll.specs.Latches.{behind_latches}
use Rattle.tm_labels.proofs.NeedLemmas.{behind_latch, behind_ends, next_within}
use Rattle.tm_labels.proofs.lost.need_of.Goals as goal

pub loop-need-init : goal.loop-need-init
loop-need-init c = (c.requires, refl)

pub driver-requires : goal.driver-requires
driver-requires c = c.loop-need.invariant.0

pub loop-need-preserved : goal.loop-need-preserved
loop-need-preserved c =
    let is = c.driver.ensures.drive ∙ ap drive_of c.in-Latch.is in (
      next_within c.args.circuit.now c.signals-sound.ensures.sound c.loop-need.at c.in-Latch.next c.in-Latch.init c.loop-need.invariant.0 is,
      ap (λ (x : Node). x.advance) (sym (behind_latch c.args.circuit.now.drives c.loop-need.need c.loop-need.at c.in-Latch.next c.in-Latch.init is c.loop-need-test.true)) ∙ c.loop-need.invariant.1,
    )

pub returns-in-Input : goal.returns-in-Input
returns-in-Input c =
    let no_latch : is_latch (drive c.args.circuit.now c.loop-need.at) ≡ false =
    elim c.in-Input.is [ inl is ↦ ap is_latch (c.driver.ensures.drive ∙ ap drive_of is) | inr is ↦ ap is_latch (c.driver.ensures.drive ∙ ap drive_of is.2) ] in
    sym (behind_ends c.args.circuit.now.drives c.loop-need.need c.loop-need.at no_latch) ∙ c.loop-need.invariant.1

pub returns-in-Input-2 : goal.returns-in-Input-2
returns-in-Input-2 c =
    let no_latch : is_latch (drive c.args.circuit.now c.loop-need.at) ≡ false =
    elim c.in-Input.is [ inl is ↦ ap is_latch (c.driver.ensures.drive ∙ ap drive_of is) | inr is ↦ ap is_latch (c.driver.ensures.drive ∙ ap drive_of is.2) ] in
    sym (behind_ends c.args.circuit.now.drives c.loop-need.need c.loop-need.at no_latch) ∙ c.loop-need.invariant.1

pub returns : goal.returns
returns c =
    let none : 0 ≡ c.loop-need.need = omega (arith, c.loop-need-test.false) in
    ap (λ n. (behind_latches c.args.circuit.now.drives n c.loop-need.at).advance) none ∙ c.loop-need.invariant.1
