-- A settling under way, and what a turn of it changes.
use Rattle.std.specs.Prelude.{◌≡◌, ◌⊎◌, ℕ, ◌-◌, Bool, true, false, List, [], ◌∷◌, ◌++◌, length, Option, Some, None, MatchBool, slice_set}
use Rattle.tm_circuit.specs.Plain.{Plain, drive, is_latch}
use Rattle.tm_circuit.specs.Source.{IsSource}
use Rattle.tm_circuit.specs.declared.sources.Source.TheVariants.{Gate}
use Rattle.tm_unroll.specs.declared.node.Node.{Node}
use Rattle.tm_unroll.specs.Nodes.{node_at}
use Rattle.tm_unroll.specs.Walks.{IsReached}
use Rattle.tm_replay.specs.declared.label.Label.{Label}
use Rattle.tm_replay.specs.Labels.{label_in, first_labels}
use Rattle.tm_replay.specs.Replays.{Drop, IsLawfulDrop, lowered}
use Rattle.tm_merge.specs.Cuts.{IsCutWithin, cut_in}
use Rattle.tm_labels.specs.Settled.{LeadTo, Settling}
use Rattle.tm_labels.specs.Marks.{is_marked, IsUnmarked, MarksGates}

-- A settling under way as plain lists: what it settles, which gates count, labels, drops, which gates wait, and cuts.
pub record Working : Type 0 where
  pub base : ℕ
  pub circuit : Plain
  pub k : ℕ
  pub d : ℕ
  pub target : ℕ
  pub counts : List Bool
  pub labels : List (Option Label)
  pub drops : List Drop
  pub queued : List Bool
  pub cuts : List (List Node)

-- Of the gates that count and do not wait each with a label has a cut of at most `k` leaves that is served within its arrival less
-- one.
abbrev pub HaveCuts : ℕ → Plain → ℕ → List Bool → List Bool → List (Option Label) → List (List Node) → Type 0
HaveCuts base c k counts queued labels cuts = (g : ℕ) (x : Label) → is_marked counts g ≡ true → is_marked queued g ≡ false
    → label_in labels g ≡ Some x → IsCutWithin base c k labels (x.arrival - 1) (node_at x.lag g) (cut_in cuts g)

-- What a settling under way keeps: its drops replay from the first labels to the labels, and each gate that counts, has a label
-- and does not wait has a cut. A signal without a label has no leaves.
pub record IsWorking (w : Working) : Type 0 where
  pub sized : length w.labels ≡ length w.circuit.drives
  pub cuts_sized : length w.cuts ≡ length w.circuit.drives
  pub led : LeadTo w.base w.circuit w.k w.d w.target w.drops w.labels
  pub cuts : HaveCuts w.base w.circuit w.k w.counts w.queued w.labels w.cuts
  pub none : (g : ℕ) → label_in w.labels g ≡ None → cut_in w.cuts g ≡ []

-- What settles what stays.
pub record IsSameTask (old new : Working) : Type 0 where
  pub base : new.base ≡ old.base
  pub circuit : new.circuit ≡ old.circuit
  pub k : new.k ≡ old.k
  pub d : new.d ≡ old.d
  pub target : new.target ≡ old.target
  pub counts : new.counts ≡ old.counts
  pub sized : length new.queued ≡ length old.queued

-- A gate leaves the queue, and all else stays.
pub record IsLeaving (gate : ℕ) (old new : Working) : Type 0 where
  pub task : IsSameTask old new
  pub left : new.queued ≡ slice_set old.queued gate false
  pub labels : new.labels ≡ old.labels
  pub drops : new.drops ≡ old.drops

-- A node is one of gate `u`, or a latch at advance 0 whose source is `u`.
abbrev pub LooksAt : Plain → ℕ → Node → Type 0
LooksAt c u y = (y.signal ≡ u) ⊎ ((is_latch (drive c y.signal) ≡ true) × (y.advance ≡ 0) × IsSource c.drives y.signal (Gate u))

-- A gate may come into the queue after a drop of gate `u`: it has a label, and from the gate at the label's lag one or more steps
-- lead to a node that looks at `u`.
pub record MayComeIn (c : Plain) (labels : List (Option Label)) (u g : ℕ) : Type 0 where
  pub label : Label
  pub has : label_in labels g ≡ Some label
  pub node : Node
  pub reached : IsReached c.drives (node_at label.lag g) node
  pub looks : LooksAt c u node

-- A drop is added, no gate leaves the queue, and those alone come into it that may.
pub record IsLowering (drop : Drop) (old new : Working) : Type 0 where
  pub task : IsSameTask old new
  pub added : new.drops ≡ old.drops ++ drop ∷ []
  pub labels : new.labels ≡ lowered old.target old.labels drop
  pub stays : (g : ℕ) → is_marked old.queued g ≡ true → is_marked new.queued g ≡ true
  pub comes : (g : ℕ) → is_marked new.queued g ≡ true → is_marked old.queued g ≡ false → MayComeIn old.circuit new.labels drop.gate g

-- All that a settling tells of is the same.
pub record IsSameWork (old new : Working) : Type 0 where
  pub task : IsSameTask old new
  pub labels : new.labels ≡ old.labels
  pub drops : new.drops ≡ old.drops
  pub queued : new.queued ≡ old.queued

-- A gate that waited leaves the queue.
abbrev pub Leaves : Working → Working → Type 0
Leaves old new = (gate : ℕ) × (is_marked old.queued gate ≡ true) × IsLeaving gate old new

-- A drop is made that is lawful under the labels of its moment, of a gate that waits.
abbrev pub Lowers : Working → Working → Type 0
Lowers old new = (drop : Drop) × IsLawfulDrop old.base old.circuit old.k old.target old.labels drop
    × (is_marked old.queued drop.gate ≡ true) × IsLowering drop old new

-- What a turn answers: whether something changed. It does not just where no gate waits.
abbrev pub IsTurn : Working → Working → Bool → Type 0
IsTurn old new more = MatchBool more (Leaves old new ⊎ Lowers old new) (IsUnmarked old.queued × (new ≡ old))

-- What a settling settles.
pub record IsTaskOf (base : ℕ) (c : Plain) (k d target : ℕ) (counts : List Bool) (w : Working) : Type 0 where
  pub base_is : w.base ≡ base
  pub circuit_is : w.circuit ≡ c
  pub k_is : w.k ≡ k
  pub d_is : w.d ≡ d
  pub target_is : w.target ≡ target
  pub counts_are : w.counts ≡ counts

-- A settling at its begin: the first labels, no drop, and each gate that counts in the queue.
pub record IsBegun (base : ℕ) (c : Plain) (k d target : ℕ) (counts : List Bool) (w : Working) : Type 0 where
  pub task : IsTaskOf base c k d target counts w
  pub first : w.labels ≡ first_labels c.drives d target
  pub no_drops : w.drops ≡ []
  pub waits : MarksGates c.drives counts w.queued

-- What is told of a settling at its end.
abbrev pub settling_of : Working → Settling
settling_of w = record { target = w.target; labels = w.labels; drops = w.drops; cuts = w.cuts }
