-- The sources of the outputs so far have a step.
use Rattle.std.proofs.Common.{ℕ, ◌<◌, List, length, sym, subst, arith}
use Rattle.tm_labels.specs.Ways.{AreStepsOn}
use Rattle.tm_labels.proofs.WayLemmas.{output_step}
use Rattle.tm_labels.proofs.order.find_outputs.Goals as goal
use Rattle.tm_labels.proofs.order.find_outputs.Goals.{in-Gate+in_ok-find, in_default}

pub loop-output-preserved : goal.loop-output-preserved
loop-output-preserved c =
    let circuit = c.args.circuit.now in
    elim c.match-source.branch [
      | in-Gate+in_ok-find w ↦
          let outputs = c.outputs-output-items.result.now in
          let within : c.loop-output.output-index < length outputs = omega (arith, c.loop-output-test.true) in
          let step = output_step circuit c.loop-output.output-index c.output-item.result w.in-Gate.gate outputs c.source.result c.outputs-output-items.ensures within c.output-item.is c.source.ensures w.in-Gate.is in
          subst (λ (l : List ℕ). AreStepsOn circuit l) (sym w.towards-is) (w.in_ok-find.ensures circuit c.loop-output.invariant step)
      | in_default w ↦ subst (λ (l : List ℕ). AreStepsOn circuit l) (sym w.towards-is) c.loop-output.invariant
    ]
