-- Drops of labels, replays of lists of drops, and what they refute.
--
-- A replay begins with the best labels that there are for a target, and lowers them one by one. Each drop shows by walks that no
-- table of its gate can be as good as its label says, as long as all tables are no better than the labels of that moment.
-- The order of the drops matters: labels alone refute nothing, since gates round a loop of registers may justify one another.
use Rattle.std.specs.Prelude.{◌≡◌, ℕ, ◌-◌, ◌<◌, ◌≤◌, List, [], ◌∷◌, Contains, Option, None, Some, slice_set}
use Rattle.tm_circuit.specs.Plain.{Plain, Drive}
use Rattle.tm_circuit.specs.Chain.{IsGate}
use Rattle.tm_circuit.specs.Source.{IsSource}
use Rattle.tm_circuit.specs.declared.sources.Source.TheVariants.{Gate}
use Rattle.tm_flow.specs.Lists.{lists_in}
use Rattle.tm_flow.specs.Cuts.{IsBarrier}
use Rattle.tm_unroll.specs.Nodes.{node_at}
use Rattle.tm_unroll.specs.Mappings.{Table}
use Rattle.tm_replay.specs.declared.label.Label.{Label}
use Rattle.tm_replay.specs.declared.label.Lowering.{Lowering}
use Rattle.tm_replay.specs.Labels.{label, label_in, next_below, first_labels, IsNoBetter}
use Rattle.tm_replay.specs.Served.{served}

-- A drop: the gate whose label it lowers, the lag of that label and an arrival, and walks that show why. A walk is a list of
-- indices, one for each node that it leaves, of the node that is read next.
pub record Drop : Type 0 where
  pub gate : ℕ
  pub lag : ℕ
  pub arrival : ℕ
  pub walks : List (List ℕ)

-- A drop as plain numbers and lists, whatever room its walks have to spare.
abbrev pub drop_of : Lowering → Drop
drop_of lowering = record { gate = lowering.gate; lag = lowering.lag; arrival = lowering.arrival; walks = lists_in lowering.walks.items }

-- A drop is in order: it is of a gate whose label now has the drop's lag and an arrival of at most the drop's, and the
-- drop's arrival is from 1 to the target.
pub record IsInOrder (drives : List Drive) (target : ℕ) (labels : List (Option Label)) (drop : Drop) : Type 0 where
  pub gate : IsGate drives drop.gate
  pub some : 1 ≤ drop.arrival
  pub most : drop.arrival ≤ target
  pub arrived : ℕ
  pub now : label_in labels drop.gate ≡ Some (label drop.lag arrived)
  pub least : arrived ≤ drop.arrival

-- A drop is lawful under the labels of its moment: it is in order, and its walks are a barrier from the gate at the drop's lag,
-- where the nodes that are served before the drop's arrival may be cut. So no `k` such leaves cover the gate at this lag.
pub record IsLawfulDrop (base : ℕ) (c : Plain) (k target : ℕ) (labels : List (Option Label)) (drop : Drop) : Type 0 where
  pub order : IsInOrder c.drives target labels drop
  pub barrier : IsBarrier (served base c labels (drop.arrival - 1)) (node_at drop.lag drop.gate) k drop.walks

-- The labels after a drop: that of its gate is the one next below the drop's lag and arrival, and all others stay.
abbrev pub lowered : ℕ → List (Option Label) → Drop → List (Option Label)
lowered target labels drop = slice_set labels drop.gate (next_below target (label drop.lag drop.arrival))

-- A list of drops, each of which is lawful under the labels of its moment.
abbrev pub Replays : ℕ → Plain → ℕ → ℕ → List (Option Label) → List Drop → Type 0
Replays base c k target labels [] = Unit {0}
Replays base c k target labels (drop ∷ drops) =
    IsLawfulDrop base c k target labels drop × Replays base c k target (lowered target labels drop) drops

-- The labels after a list of drops.
abbrev pub labels_after : ℕ → List (Option Label) → List Drop → List (Option Label)
labels_after target labels [] = labels
labels_after target labels (drop ∷ drops) = labels_after target (lowered target labels drop) drops

-- A label falls short of a lag: there is none, or it has less lag.
abbrev pub FallsShort : Option Label → ℕ → Type 0
FallsShort None need = Unit {0}
FallsShort (Some x) need = x.lag < need

-- The source of a signal is a gate, and its label falls short of a lag.
abbrev pub HasLostSource : List Drive → List (Option Label) → ℕ → ℕ → Type 0
HasLostSource drives labels s need = (g : ℕ) × IsSource drives s (Gate g) × FallsShort (label_in labels g) need

-- Labels refute: the label of the source gate of some output falls short of the lag that the output needs.
abbrev pub HaveLost : (ℕ → ℕ) → Plain → List (Option Label) → Type 0
HaveLost need c labels = (s : ℕ) × Contains c.outputs s × HasLostSource c.drives labels s (need s)

-- Drops refute a target: they replay from the first labels for it, and the labels at the end refute.
pub record RefutesFrom (base : ℕ) (need : ℕ → ℕ) (c : Plain) (k d target : ℕ) (drops : List Drop) : Type 0 where
  pub replays : Replays base c k target (first_labels c.drives d target) drops
  pub lost : HaveLost need c (labels_after target (first_labels c.drives d target) drops)

-- Drops refute a target for mappings that move registers forward alone: at the end the source gate of some output has no label.
abbrev pub Refutes : Plain → ℕ → ℕ → ℕ → List Drop → Type 0
Refutes c k d target drops = RefutesFrom 0 (λ _. 0) c k d target drops

-- Each table is no better than the label of its gate.
abbrev pub AreNoBetter : List Table → List (Option Label) → Type 0
AreNoBetter tables labels = (t : Table) → Contains tables t → IsNoBetter tables t (label_in labels t.gate)
