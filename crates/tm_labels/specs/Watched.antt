-- The present cuts of gates, and for each gate the list of the cuts that look at it: those with a leaf that has the gate as its
-- source. A drop of the gate makes stale at most the cuts that look at it.
use Rattle.std.specs.Prelude.{◌≡◌, ◌≢◌, ℕ, ◌-◌, ◌<◌, true, false, Bool, List, [], length, Contains, Option, Some, None, slice_index, slice_index_or}
use Rattle.tm_circuit.specs.Plain.{Plain, Drive}
use Rattle.tm_circuit.specs.Source.{IsSource}
use Rattle.tm_circuit.specs.declared.sources.Source.TheVariants.{Gate}
use Rattle.tm_unroll.specs.declared.node.Node.{Node}
use Rattle.tm_replay.specs.declared.label.Label.{Label}
use Rattle.tm_replay.specs.Labels.{label_in}
use Rattle.tm_replay.specs.Served.{is_served}
use Rattle.tm_merge.specs.Cuts.{cut_in}
use Rattle.tm_labels.specs.Marks.{is_marked, JoinsMarks}
use Rattle.tm_labels.specs.declared.watcher.Watcher.{Watcher}

-- The cuts of gates as plain lists by the signals, and which of them are stale: no cover at the lag that the gate's label has.
pub record Kept : Type 0 where
  pub circuit : Plain
  pub leaves : List (List Node)
  pub stale : List Bool

abbrev pub watcher : ℕ → Node → ℕ → Watcher
watcher gate node version = record { gate = gate; node = node; version = version }

-- The watchers of a gate.
abbrev pub watchers_in : List (List Watcher) → ℕ → List Watcher
watchers_in watchers u = slice_index_or watchers u []

-- The leaves of all cuts are signals.
abbrev pub AreWithin : ℕ → List (List Node) → Type 0
AreWithin signals leaves = (g : ℕ) (y : Node) → Contains (cut_in leaves g) y → y.signal < signals

-- Each leaf of a cut, where a gate is its source, is watched there, under the version of the cut.
abbrev pub AreWatched : List Drive → List (List Node) → List ℕ → List (List Watcher) → Type 0
AreWatched drives leaves versions watchers = (g u : ℕ) (y : Node) → Contains (cut_in leaves g) y → IsSource drives y.signal (Gate u)
    → Contains (watchers_in watchers u) (watcher g y (slice_index versions g))

-- What is kept of cuts.
pub record KeepsCuts (drives : List Drive) (leaves : List (List Node)) (stale : List Bool) (versions : List ℕ) (watchers : List (List Watcher)) : Type 0 where
  pub leaves_sized : length leaves ≡ length drives
  pub stale_sized : length stale ≡ length drives
  pub versions_sized : length versions ≡ length drives
  pub watchers_sized : length watchers ≡ length drives
  pub within : AreWithin (length drives) leaves
  pub watched : AreWatched drives leaves versions watchers

-- More watchers: none goes.
pub record AddsWatchers (old new : List (List Watcher)) : Type 0 where
  pub sized : length new ≡ length old
  pub stays : (u : ℕ) (w : Watcher) → Contains (watchers_in old u) w → Contains (watchers_in new u) w

-- The leaves are watched as those of a gate under a version.
abbrev pub AreWatchedAs : List Drive → ℕ → ℕ → List Node → List (List Watcher) → Type 0
AreWatchedAs drives g version leaves watchers = (u : ℕ) (y : Node) → Contains leaves y → IsSource drives y.signal (Gate u)
    → Contains (watchers_in watchers u) (watcher g y version)

-- A gate that counts and does not wait is served too late at a leaf of its cut.
pub record IsLate (base : ℕ) (c : Plain) (labels : List (Option Label)) (counts queued : List Bool) (leaves : List (List Node)) (g : ℕ) (y : Node) : Type 0 where
  pub counted : is_marked counts g ≡ true
  pub idle : is_marked queued g ≡ false
  pub label : Label
  pub has : label_in labels g ≡ Some label
  pub leaf : Contains (cut_in leaves g) y
  pub unserved : is_served base c.drives labels (label.arrival - 1) y ≡ false

-- The gates of the watchers that are served too late at the leaf that they look at.
pub record AreLateAmong (base : ℕ) (c : Plain) (labels : List (Option Label)) (counts queued : List Bool) (leaves : List (List Node)) (watchers : List Watcher) (late : List ℕ) : Type 0 where
  pub all : (w : Watcher) → Contains watchers w → IsLate base c labels counts queued leaves w.gate w.node → Contains late w.gate
  pub only : (g : ℕ) → Contains late g → (y : Node) × IsLate base c labels counts queued leaves g y

-- The gates that are served too late at some leaf of which a gate is the source, and none that is served in time.
pub record AreLate (base : ℕ) (c : Plain) (labels : List (Option Label)) (counts queued : List Bool) (leaves : List (List Node)) (u : ℕ) (late : List ℕ) : Type 0 where
  pub all : (g : ℕ) (y : Node) → IsLate base c labels counts queued leaves g y → IsSource c.drives y.signal (Gate u) → Contains late g
  pub only : (g : ℕ) → Contains late g → (y : Node) × IsLate base c labels counts queued leaves g y

-- Just the gates that are served too late come into the queue.
pub record Wakes (base : ℕ) (c : Plain) (labels : List (Option Label)) (counts : List Bool) (leaves : List (List Node)) (u : ℕ) (old new : List Bool) : Type 0 where
  pub late : List ℕ
  pub are : AreLate base c labels counts old leaves u late
  pub joins : JoinsMarks late old new

-- The cut of a gate after its label fell to the next one below a lag: it is gone where there is no label left, it stays where
-- the lag does, and otherwise it is stale. Those of others stay.
pub record FallsWith (g lag : ℕ) (next : Option Label) (old new : Kept) : Type 0 where
  pub circuit : new.circuit ≡ old.circuit
  pub leaves_sized : length new.leaves ≡ length old.leaves
  pub stale_sized : length new.stale ≡ length old.stale
  pub others : (h : ℕ) → h ≢ g → (cut_in new.leaves h ≡ cut_in old.leaves h) × (is_marked new.stale h ≡ is_marked old.stale h)
  pub gone : next ≡ None → cut_in new.leaves g ≡ []
  pub same : (x : Label) → next ≡ Some x → is_marked new.stale g ≡ false
      → (x.lag ≡ lag) × (cut_in new.leaves g ≡ cut_in old.leaves g) × (is_marked old.stale g ≡ false)
