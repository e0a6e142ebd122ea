use Rattle.std.proofs.Common.{◌≡◌, ℕ, ◌<◌, ◌++◌}
use Rattle.tm_circuit.specs.Plain.{drive}
use Rattle.blif_write.specs.Even.{IsEvenDrive}
use Rattle.blif_write.specs.Text.{gate_lines}
use Rattle.blif_write.proofs.Steps.{lines_below}
use Rattle.blif_write.proofs.write_gates.Given as goal

abbrev pub invariant-loop-signal : goal.invariant-loop-signal
invariant-loop-signal l = (l.out.items ≡ l.initial.out.items ++ lines_below gate_lines l.circuit l.signal) × ((s : ℕ) → s < l.signal → IsEvenDrive (drive l.circuit s))
