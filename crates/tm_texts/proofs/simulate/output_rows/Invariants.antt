use Rattle.tm_texts.proofs.Simulations.{IsSimulating}
use Rattle.tm_texts.proofs.simulate.output_rows.Given as goal

abbrev pub invariant-loop-step : goal.invariant-loop-step
invariant-loop-step l = IsSimulating l.circuit l.rows.rows l.width l.machine l.row.items l.bits.items l.step
