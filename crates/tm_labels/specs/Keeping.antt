-- What the fields of a `Work` keep.
use Rattle.std.specs.Prelude.{◌≡◌, ℕ, ◌≤◌, Bool, true, List, [], length, map, Option, Some, None}
use Rattle.tm_bits.specs.Limits.{most_inputs}
use Rattle.tm_circuit.specs.Plain.{Plain, widest}
use Rattle.tm_circuit.specs.Chain.{IsGate}
use Rattle.tm_unroll.specs.declared.node.Node.{Node}
use Rattle.tm_replay.specs.declared.label.Label.{Label}
use Rattle.tm_replay.specs.Labels.{label_in, IsLabelFor}
use Rattle.tm_replay.specs.Replays.{Drop, drop_of}
use Rattle.tm_merge.specs.Cuts.{HaveCovers, cut_in}
use Rattle.tm_labels.specs.Settled.{LeadTo}
use Rattle.tm_labels.specs.Marks.{is_marked}
use Rattle.tm_labels.specs.Working.{Working, HaveCuts}
use Rattle.tm_labels.specs.declared.work.Work.TheInside.{Inside}

-- What a settling may be asked for.
pub record IsTask (base : ℕ) (c : Plain) (k d target : ℕ) : Type 0 where
  pub some : 2 ≤ k
  pub few : k ≤ most_inputs
  pub base_low : base ≤ 8
  pub near : d ≤ 16
  pub narrow : widest c.drives ≤ k
  pub target_low : target ≤ 100000

-- The labels are those of gates, and each is one for the target.
abbrev pub FitLabels : Plain → ℕ → ℕ → List (Option Label) → Type 0
FitLabels c d target labels = (g : ℕ) (x : Label) → label_in labels g ≡ Some x → IsGate c.drives g × IsLabelFor d target x

-- The lists have a place for each signal.
pub record AreSized (signals : ℕ) (counts : List Bool) (labels : List (Option Label)) (queued : List Bool) : Type 0 where
  pub counts_sized : length counts ≡ signals
  pub labels_sized : length labels ≡ signals
  pub queued_sized : length queued ≡ signals

-- The same for the state itself: labels that drops have led to, and cuts, which cover where they are not stale, and are served in
-- time where the gate counts and does not wait.
pub record Keeps (base : ℕ) (c : Plain) (k d target : ℕ) (counts queued : List Bool) (labels : List (Option Label)) (drops : List Drop) (leaves : List (List Node)) (stale : List Bool) : Type 0 where
  pub sized : AreSized (length c.drives) counts labels queued
  pub led : LeadTo base c k d target drops labels
  pub fit : FitLabels c d target labels
  pub covers : HaveCovers c k labels (λ g. is_marked stale g ≡ true) leaves
  pub cuts : HaveCuts base c k counts queued labels leaves
  pub none : (g : ℕ) → label_in labels g ≡ None → cut_in leaves g ≡ []

abbrev pub working_of : Inside → Working
working_of a = record {
  base = a.base;
  circuit = a.cuts.circuit;
  k = a.k;
  d = a.d;
  target = a.target;
  counts = a.counts.items;
  labels = a.labels.items;
  drops = map drop_of a.drops.items;
  queued = a.queue;
  cuts = a.cuts.leaves;
}

pub record IsKept (a : Inside) : Type 0 where
  pub task : IsTask a.base a.cuts.circuit a.k a.d a.target
  pub stale_sized : length a.cuts.stale ≡ length a.cuts.circuit.drives
  pub leaves_sized : length a.cuts.leaves ≡ length a.cuts.circuit.drives
  pub keeps : Keeps a.base a.cuts.circuit a.k a.d a.target a.counts.items a.queue a.labels.items (map drop_of a.drops.items) a.cuts.leaves a.cuts.stale
