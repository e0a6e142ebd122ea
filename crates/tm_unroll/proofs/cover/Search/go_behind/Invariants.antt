-- the search is under way behind the leaves, from the same root, and has still met what it had met
use Rattle.std.proofs.Common.{◌≡◌}
use Rattle.std.specs.Prelude.{Contains}
use Rattle.tm_unroll.specs.declared.node.Node.{Node}
use Rattle.tm_unroll.specs.Falls.{IsLower}
use Rattle.tm_unroll.specs.Searches.{met_by}
use Rattle.tm_unroll.proofs.SearchLemmas.{IsGoingBehind}
use Rattle.tm_unroll.proofs.CountLemmas.{room}
use Rattle.tm_unroll.proofs.cover.Search.go_behind.Given as goal

abbrev pub invariant-loop-node : goal.invariant-loop-node
invariant-loop-node l = record {
  going : IsGoingBehind l.circuit.drives (λ x. IsLower l.circuit l.floor x) l.self;
  root : l.self.root ≡ l.fn.self.root;
  kept : (x : Node) → Contains (met_by l.fn.self) x → Contains (met_by l.self) x;
}

abbrev pub decreases-loop-node : goal.decreases-loop-node
decreases-loop-node l = room l.circuit.drives l.self
