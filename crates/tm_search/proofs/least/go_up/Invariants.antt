-- the target so far is refuted
use Rattle.std.proofs.Common.{suc, ◌-◌}
use Rattle.tm_search.specs.Least.{Refutes}
use Rattle.tm_search.proofs.least.go_up.Given as goal

abbrev pub invariant-loop-alloc : goal.invariant-loop-alloc
invariant-loop-alloc l = Refutes l.base l.circuit l.k l.d (suc l.below.target) l.below

abbrev pub decreases-loop-alloc : goal.decreases-loop-alloc
decreases-loop-alloc l = l.most - l.below.target
