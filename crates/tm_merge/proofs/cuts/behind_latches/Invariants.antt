-- the node so far leads where the signal does, and each latch that was passed cost one advance
use Rattle.std.proofs.Common.{◌≡◌, ◌+◌, ◌<◌, length}
use Rattle.tm_unroll.specs.Latches.{behind_latches}
use Rattle.tm_merge.proofs.cuts.behind_latches.Given as goal

abbrev pub invariant-loop-latch : goal.invariant-loop-latch
invariant-loop-latch l = record {
  within : l.node.signal < length l.circuit.drives;
  spent : l.node.advance + l._latch ≡ l.advance;
  same : behind_latches l.circuit.drives l.node.advance l.node.signal ≡ behind_latches l.circuit.drives l.advance l.fn.s;
}
