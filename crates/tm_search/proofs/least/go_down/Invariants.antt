-- the target is reached
use Rattle.std.proofs.Common.{◌≡◌, ◌≤◌, length}
use Rattle.tm_search.specs.Least.{Reaches}
use Rattle.tm_search.proofs.least.go_down.Given as goal

abbrev pub invariant-loop-alloc : goal.invariant-loop-alloc
invariant-loop-alloc l = record {
  low : l.at.target ≤ 100000;
  reached : Reaches l.base l.circuit l.k l.d l.at.target l.at;
  sized : length l.at.cuts ≡ length l.circuit.drives;
}

abbrev pub decreases-loop-alloc : goal.decreases-loop-alloc
decreases-loop-alloc l = l.at.target
