-- Output by output.
use Rattle.tm_unroll.proofs.JudgeLemmas.{gate_within}
use Rattle.tm_absorb.proofs.ReaderLemmas.{marks_gate, marks_other, marks_done}
use Rattle.tm_absorb.proofs.readers.output_marks.Goals as goal
use Rattle.tm_absorb.proofs.readers.output_marks.Goals.{in-Gate, in_default}

pub loop-output-preserved : goal.loop-output-preserved
loop-output-preserved c =
    let drives = c.args.circuit.now.drives in
    let outputs = c.outputs-output-items.result.now in
    elim c.match-source.branch [
      | in-Gate w ↦ rw w.marks-is
          (marks_gate drives outputs c.loop-output.output-index c.output-item.result w.in-Gate.gate c.loop-output.marks.items w.mark.new.marks.items c.loop-output-test.true c.output-item.is
          w.in-Gate.ensures (gate_within drives w.in-Gate.gate w.in-Gate.ensures.0) w.mark.ensures c.loop-output.invariant)
      | in_default w ↦ rw w.marks-is
          (marks_other drives outputs c.loop-output.output-index c.output-item.result c.source.result c.loop-output.marks.items c.loop-output-test.true c.output-item.is c.source.ensures
          (λ g is. w.in_default.not-Gate g is) c.loop-output.invariant)
    ]

pub returns-clause-marks : goal.returns-clause-marks
returns-clause-marks c =
    marks_done c.args.circuit.now c.outputs-output-items.result.now c.loop-output.output-index c.loop-output.marks.items c.outputs-output-items.ensures c.loop-output-test.false c.loop-output.invariant
