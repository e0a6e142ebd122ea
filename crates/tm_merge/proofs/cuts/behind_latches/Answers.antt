-- A latch with advance to spend leads where its next does.
use Rattle.std.proofs.Common.{◌≡◌, ◌≤◌, ◌∙◌, length, sym, ap, subst, arith}
use Rattle.tm_circuit.specs.Plain.{Drive, latch, is_latch, drive_of, drive_in}
use Rattle.tm_circuit.specs.Sound.{ReadsBelow}
use Rattle.tm_circuit.specs.declared.parts.Driver.{Driver}
use Rattle.tm_replay.proofs.SourceLemmas.{reads_signals}
use Rattle.tm_merge.proofs.MergeLemmas.{behind_next, behind_stays, no_latch}
use Rattle.tm_merge.proofs.cuts.behind_latches.Goals as goal

pub loop-latch-preserved : goal.loop-latch-preserved
loop-latch-preserved c =
    let circuit = c.args.circuit.now in
    let some : 1 ≤ c.loop-latch.node.advance = omega arith in
    let is : drive_in circuit.drives c.loop-latch.node.signal ≡ latch c.in-Latch.next c.in-Latch.init = c.driver.ensures.drive ∙ ap (λ (d : Driver). drive_of d) c.in-Latch.is in
    record {
      within = subst (λ (d : Drive). ReadsBelow (length circuit.drives) d) is (reads_signals circuit c.signals-sound.ensures.sound c.loop-latch.node.signal c.loop-latch.invariant.within);
      spent = omega arith;
      same = behind_next circuit.drives c.loop-latch.node.advance c.loop-latch.node.signal c.in-Latch.next c.in-Latch.init some is ∙ c.loop-latch.invariant.same;
    }

pub returns-in_default : goal.returns-in_default
returns-in_default c =
    let circuit = c.args.circuit.now in
    let node = c.loop-latch.node in
    sym (behind_stays circuit.drives node.advance node.signal (ap (λ (d : Drive). is_latch d) c.driver.ensures.drive ∙ no_latch c.driver.result.now c.in_default.not-Latch)) ∙ c.loop-latch.invariant.same
