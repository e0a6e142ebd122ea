-- the nodes so far ascend one by one
use Rattle.tm_unroll.proofs.AscentLemmas.{AscendsTo}
use Rattle.tm_unroll.proofs.leaves.is_ascending.Given as goal

abbrev pub invariant-loop-place : goal.invariant-loop-place
invariant-loop-place l = AscendsTo l.nodes l.place
