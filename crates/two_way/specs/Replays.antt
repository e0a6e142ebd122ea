-- Drops of two-way labels, replays of lists of drops, and what they refute.
use Rattle.std.specs.Prelude.{◌≡◌, ℕ, ◌-◌, ◌≤◌, ℤ, pos, neg_ℤ, ◌<ℤ◌, List, [], ◌∷◌, Contains, Option, None, Some, slice_set}
use Rattle.tm_circuit.specs.Plain.{Plain}
use Rattle.tm_circuit.specs.Chain.{IsGate}
use Rattle.tm_circuit.specs.Source.{back as signal_behind}
use Rattle.tm_flow.specs.Lists.{lists_in}
use Rattle.tm_flow.specs.Cuts.{IsBarrier}
use Rattle.tm_unroll.specs.Latches.{LeadsToGate}
use Rattle.two_way.specs.declared.answer.TwoDrop.{TwoDrop}
use Rattle.two_way.specs.Nodes.{node_at}
use Rattle.two_way.specs.Labels.{TwoLabel, label, label_in, next_below, first_labels}
use Rattle.two_way.specs.Served.{served}

-- A drop: the gate whose label it lowers, the lag of that label and an arrival, and walks that show why. A walk is a list of
-- indices, one for each node that it leaves, of the node that is read next.
pub record PlainDrop : Type 0 where
  pub gate : ℕ
  pub lag : ℤ
  pub arrival : ℕ
  pub walks : List (List ℕ)

-- A drop as plain numbers and lists, whatever room its walks have to spare.
abbrev pub drop_of : TwoDrop → PlainDrop
drop_of drop = record { gate = drop.gate; lag = drop.lag; arrival = drop.arrival; walks = lists_in drop.walks.items }

-- A drop is lawful under the labels of its moment: it is of a gate whose label has the drop's lag and an arrival of at most the
-- drop's, the drop's arrival is at most the target, and its walks are a barrier from the gate at the drop's lag, where the nodes that
-- are served before the drop's arrival may be cut. So no `k` such leaves cover the gate at this lag.
pub record IsLawfulDrop (back : ℕ) (c : Plain) (k target : ℕ) (labels : List (Option TwoLabel)) (drop : PlainDrop) : Type 0 where
  pub gate : IsGate c.drives drop.gate
  pub some : 1 ≤ drop.arrival
  pub most : drop.arrival ≤ target
  pub arrived : ℕ
  pub now : label_in labels drop.gate ≡ Some (label drop.lag arrived)
  pub least : arrived ≤ drop.arrival
  pub barrier : IsBarrier (served back c labels (drop.arrival - 1)) (node_at drop.lag drop.gate) k drop.walks

-- The labels after a drop: that of its gate is the one next below the drop's lag and arrival, and all others stay.
abbrev pub lowered : ℕ → ℕ → List (Option TwoLabel) → PlainDrop → List (Option TwoLabel)
lowered back target labels drop = slice_set labels drop.gate (next_below back target (label drop.lag drop.arrival))

-- A list of drops, each of which is lawful under the labels of its moment.
abbrev pub Replays : ℕ → Plain → ℕ → ℕ → List (Option TwoLabel) → List PlainDrop → Type 0
Replays back c k target labels [] = Unit {0}
Replays back c k target labels (drop ∷ drops) =
    IsLawfulDrop back c k target labels drop × Replays back c k target (lowered back target labels drop) drops

-- The labels after a list of drops.
abbrev pub labels_after : ℕ → ℕ → List (Option TwoLabel) → List PlainDrop → List (Option TwoLabel)
labels_after back target labels [] = labels
labels_after back target labels (drop ∷ drops) = labels_after back target (lowered back target labels drop) drops

-- A label falls short of a lag: there is none, or it has less lag.
abbrev pub FallsShort : Option TwoLabel → ℤ → Type 0
FallsShort None need = Unit {0}
FallsShort (Some x) need = x.lag <ℤ need

-- Labels refute: latches lead from some output down to a gate, the output counted, and the label of the gate falls short of as many
-- steps behind as there are latches.
abbrev pub HaveLost : Plain → List (Option TwoLabel) → Type 0
HaveLost c labels = (s latches : ℕ) × Contains c.outputs s × LeadsToGate c.drives s latches
    × FallsShort (label_in labels (signal_behind c.drives latches s)) (neg_ℤ (pos latches))

-- Drops refute a target: they replay from the first labels for it, and the labels at the end refute.
pub record Refutes (c : Plain) (k d back target : ℕ) (drops : List PlainDrop) : Type 0 where
  pub replays : Replays back c k target (first_labels c.drives d target) drops
  pub lost : HaveLost c (labels_after back target (first_labels c.drives d target) drops)
