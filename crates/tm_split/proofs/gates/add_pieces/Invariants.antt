use Rattle.std.proofs.Common.{length}
use Rattle.std.specs.Prelude.{slice_index}
use Rattle.tm_split.proofs.Adding.{IsAdding}
use Rattle.tm_split.proofs.gates.add_pieces.Given as goal

abbrev pub invariant-loop-rest : goal.invariant-loop-rest
invariant-loop-rest l = IsAdding l.on (slice_index l.plan.numbers.items) l.first l.name l.plan.joiner.items (length l.plan.numbers.items) l.initial.gates.items l.gates.items l.pieces l.rest l.number

abbrev pub decreases-loop-rest : goal.decreases-loop-rest
decreases-loop-rest l = length l.rest
