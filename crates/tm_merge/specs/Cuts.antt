-- Cuts of nodes under labels, and the present cuts of gates that others are made of.
use Rattle.std.specs.Prelude.{◌≡◌, ℕ, ◌≤◌, true, List, [], length, AllPairs, Contains, Option, Some, slice_index_or}
use Rattle.tm_circuit.specs.Plain.{Plain}
use Rattle.tm_unroll.specs.declared.node.Node.{Node}
use Rattle.tm_unroll.specs.Nodes.{node_at, IsBefore}
use Rattle.tm_unroll.specs.Walks.{Covers}
use Rattle.tm_replay.specs.declared.label.Label.{Label}
use Rattle.tm_replay.specs.Labels.{label_in}
use Rattle.tm_replay.specs.Served.{is_served}

-- A cut of a node within a number: at most `k` leaves in strictly ascending order that cover the node, each served within the
-- number.
pub record IsCutWithin (base : ℕ) (c : Plain) (k : ℕ) (labels : List (Option Label)) (within : ℕ) (x : Node) (leaves : List Node) : Type 0 where
  pub few : length leaves ≤ k
  pub ascending : AllPairs IsBefore leaves
  pub covers : Covers c.drives leaves x
  pub served : (y : Node) → Contains leaves y → is_served base c.drives labels within y ≡ true

-- The cut that is kept for a gate; none is kept past the end.
abbrev pub cut_in : List (List Node) → ℕ → List Node
cut_in cuts g = slice_index_or cuts g []

-- Each gate with a label that is not left out has a kept cut of at most `k` leaves, which covers it at the lag of its label.
-- Whether the leaves are served is left open.
abbrev pub HaveCovers : Plain → ℕ → List (Option Label) → (ℕ → Type 0) → List (List Node) → Type 0
HaveCovers c k labels IsLeftOut cuts = (g : ℕ) (x : Label) → label_in labels g ≡ Some x → (IsLeftOut g → ⊥)
    → (length (cut_in cuts g) ≤ k) × Covers c.drives (cut_in cuts g) (node_at x.lag g)
