-- Walks that refuse a node a cut.
use Rattle.std.specs.Prelude.{ℕ, ◌-◌, ◌≤◌, List, Option}
use Rattle.tm_circuit.specs.Plain.{Plain}
use Rattle.tm_flow.specs.Lists.{lists_in}
use Rattle.tm_flow.specs.Cuts.{IsBarrier}
use Rattle.tm_unroll.specs.declared.node.Node.{Node}
use Rattle.tm_unroll.specs.Nodes.{node_at}
use Rattle.tm_replay.specs.declared.label.Label.{Label}
use Rattle.tm_replay.specs.Served.{served}
use Rattle.tm_replay.specs.Replays.{Drop}
use Rattle.tm_inherit.specs.declared.refusal.Refusal.{Refusal}

-- Walks refuse a node a cut before an arrival from the first to the last: they are a barrier where the nodes may be cut that are
-- served before it.
pub record IsRefusal (base : ℕ) (c : Plain) (k : ℕ) (labels : List (Option Label)) (first last : ℕ) (x : Node) (refusal : Refusal) : Type 0 where
  pub least : first ≤ refusal.arrival
  pub most : refusal.arrival ≤ last
  pub barrier : IsBarrier (served base c labels (refusal.arrival - 1)) x k (lists_in refusal.walks.items)

-- The walks of a drop are a barrier of its gate under some labels.
abbrev pub HasBarrier : ℕ → Plain → ℕ → List (Option Label) → Drop → Type 0
HasBarrier base c k labels drop = IsBarrier (served base c labels (drop.arrival - 1)) (node_at drop.lag drop.gate) k drop.walks
