-- the latest so far is a read
use Rattle.std.specs.Prelude.{IfSome}
use Rattle.tm_inherit.specs.Reads.{IsReadAmong}
use Rattle.tm_inherit.proofs.reads.latest_among.Given as goal

abbrev pub invariant-loop-index : goal.invariant-loop-index
invariant-loop-index l = IfSome l.latest (IsReadAmong l.circuit.drives l.pins l.lag)
