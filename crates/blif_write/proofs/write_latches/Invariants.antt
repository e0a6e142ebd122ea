use Rattle.std.proofs.Common.{◌≡◌, ◌++◌}
use Rattle.blif_write.specs.Text.{latch_lines}
use Rattle.blif_write.proofs.Steps.{lines_below}
use Rattle.blif_write.proofs.write_latches.Given as goal

abbrev pub invariant-loop-signal : goal.invariant-loop-signal
invariant-loop-signal l = l.out.items ≡ l.initial.out.items ++ lines_below latch_lines l.circuit l.signal
