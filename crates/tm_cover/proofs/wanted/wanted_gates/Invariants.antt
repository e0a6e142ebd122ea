-- the search is under way, and each turn takes one from what is not met and what is left
use Rattle.std.proofs.Common.{◌+◌, length}
use Rattle.tm_cover.specs.Wanted.{left_by, unmet_by}
use Rattle.tm_cover.proofs.SearchLemmas.{IsUnderWay}
use Rattle.tm_cover.proofs.wanted.wanted_gates.Given as goal

abbrev pub invariant-loop-gate : goal.invariant-loop-gate
invariant-loop-gate l = IsUnderWay l.circuit l.settled.cuts l.search

abbrev pub decreases-loop-gate : goal.decreases-loop-gate
decreases-loop-gate l = unmet_by l.search + length (left_by l.search)
