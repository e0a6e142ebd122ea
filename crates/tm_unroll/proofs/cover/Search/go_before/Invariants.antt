-- the search is under way before the leaves, from the same root
use Rattle.std.proofs.Common.{◌≡◌}
use Rattle.tm_unroll.proofs.SearchLemmas.{IsGoingBefore}
use Rattle.tm_unroll.proofs.CountLemmas.{room}
use Rattle.tm_unroll.proofs.cover.Search.go_before.Given as goal

abbrev pub invariant-loop-node : goal.invariant-loop-node
invariant-loop-node l = record { going : IsGoingBefore l.circuit.drives l.leaves l.self; root : l.self.root ≡ l.fn.self.root }

abbrev pub decreases-loop-node : goal.decreases-loop-node
decreases-loop-node l = room l.circuit.drives l.self
