-- Merges under way: leaves that are served in time, and nodes that have still to be replaced.
use Rattle.std.specs.Prelude.{◌≡◌, ◌↔◌, ◌⊎◌, ℕ, ◌≤◌, Bool, false, true, List, length, map, AllPairs, Contains, Some, slice_index_or}
use Rattle.tm_circuit.specs.Plain.{drive_in, pins_of}
use Rattle.tm_circuit.specs.Chain.{IsGate}
use Rattle.tm_unroll.specs.declared.node.Node.{Node}
use Rattle.tm_unroll.specs.Nodes.{IsBefore}
use Rattle.tm_unroll.specs.Walks.{Covers}
use Rattle.tm_unroll.specs.Latches.{behind_latches}
use Rattle.tm_replay.specs.declared.label.Label.{Label}
use Rattle.tm_replay.specs.Labels.{label_in}
use Rattle.tm_replay.specs.Served.{is_served}
use Rattle.tm_merge.specs.declared.cuts.Moment.{Moment}
use Rattle.tm_merge.specs.declared.cuts.Merging.{Merging}
use Rattle.tm_merge.specs.Cuts.{cut_in, HaveCovers}

-- Whether a node is served in time.
abbrev pub in_time : Moment → Node → Bool
in_time m y = is_served m.base m.circuit.now.drives m.labels.now m.within y

-- The cut of a gate is left out.
abbrev pub IsStale : Moment → ℕ → Type 0
IsStale m g = slice_index_or m.stale.now g false ≡ true

-- The cuts of all gates.
abbrev pub cuts_of : Moment → List (List Node)
cuts_of m = map (λ cut. cut.items) m.cuts.now

-- The kept cuts are covers.
abbrev pub KeepsCovers : Moment → Type 0
KeepsCovers m = HaveCovers m.circuit.now m.k m.labels.now (IsStale m) (cuts_of m)

-- At most `k` leaves in strictly ascending order, each served in time.
pub record AreLeaves (m : Moment) (leaves : List Node) : Type 0 where
  pub few : length leaves ≤ m.k
  pub ascending : AllPairs IsBefore leaves
  pub served : (y : Node) → Contains leaves y → in_time m y ≡ true

-- A list has the nodes of another, and one more.
pub record HasOneMore (x : Node) (old new : List Node) : Type 0 where
  pub nodes : (z : Node) → Contains new z ↔ (Contains old z ⊎ (x ≡ z))

-- A node stands among the leaves of a merge or among those that have still to be replaced.
abbrev pub Holds : Merging → Node → Type 0
Holds w y = Contains w.leaves.items y ⊎ Contains w.late.items y

-- A merge takes in some nodes, and its leaves are such as they have to be.
pub record TakesIn (m : Moment) (nodes : List Node) (old new : Merging) : Type 0 where
  pub leaves : AreLeaves m new.leaves.items
  pub held : (y : Node) → Holds new y ↔ (Holds old y ⊎ Contains nodes y)

-- A merge takes in the nodes behind latches from the pins of a gate at a lag.
pub record TakesReads (m : Moment) (g lag : ℕ) (old new : Merging) : Type 0 where
  pub gate : IsGate m.circuit.now.drives g
  pub takes : TakesIn m (map (λ p. behind_latches m.circuit.now.drives lag p) (pins_of (drive_in m.circuit.now.drives g))) old new

-- The cut that is kept for the gate of a node, whose label has just the node's advance and which is not left out.
pub record IsKeptFor (m : Moment) (y : Node) (cut : List Node) : Type 0 where
  pub label : Label
  pub is : label_in m.labels.now y.signal ≡ Some label
  pub lag : label.lag ≡ y.advance
  pub fresh : IsStale m y.signal → ⊥
  pub same : cut ≡ cut_in (cuts_of m) y.signal

-- What a merge comes to: leaves that are served in time, and a cut where the kept cuts are covers.
pub record IsMerged (m : Moment) (x : Node) (leaves : List Node) : Type 0 where
  pub timely : AreLeaves m leaves
  pub covers : KeepsCovers m → Covers m.circuit.now.drives leaves x
