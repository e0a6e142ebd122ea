-- Settlings for a target: labels that drops have led to, and for each gate that counts and still has a label a cut that is
-- served in time.
use Rattle.std.specs.Prelude.{◌≡◌, ◌⊎◌, ℕ, ◌-◌, Bool, true, List, [], Contains, Option, Some, None}
use Rattle.tm_circuit.specs.Plain.{Plain, drive, pins_of}
use Rattle.tm_circuit.specs.Source.{IsSource}
use Rattle.tm_circuit.specs.declared.sources.Source.TheVariants.{Gate}
use Rattle.tm_unroll.specs.declared.node.Node.{Node}
use Rattle.tm_unroll.specs.Nodes.{node_at}
use Rattle.tm_unroll.specs.Latches.{need_of}
use Rattle.tm_replay.specs.declared.label.Label.{Label}
use Rattle.tm_replay.specs.Labels.{label_in, first_labels}
use Rattle.tm_replay.specs.Replays.{Drop, Replays, labels_after, HaveLost}
use Rattle.tm_merge.specs.Cuts.{IsCutWithin, cut_in}

-- A settling as plain lists: labels and cuts by the signals, and drops in the order in which they were made.
pub record Settling : Type 0 where
  pub target : ℕ
  pub labels : List (Option Label)
  pub drops : List Drop
  pub cuts : List (List Node)

abbrev pub settling : ℕ → List (Option Label) → List Drop → List (List Node) → Settling
settling target labels drops cuts = record { target = target; labels = labels; drops = drops; cuts = cuts }

-- Drops replay from the first labels for a target to these labels.
pub record LeadTo (base : ℕ) (c : Plain) (k d target : ℕ) (drops : List Drop) (labels : List (Option Label)) : Type 0 where
  pub replays : Replays base c k target (first_labels c.drives d target) drops
  pub led : labels ≡ labels_after target (first_labels c.drives d target) drops

-- The drops replay from the first labels to the labels. Of the gates that count each with a label has a cut of at most `k` leaves
-- that is served within its arrival less one. A signal without a label has no leaves.
pub record IsSettledOver (base : ℕ) (c : Plain) (k d : ℕ) (counts : ℕ → Bool) (s : Settling) : Type 0 where
  pub led : LeadTo base c k d s.target s.drops s.labels
  pub cuts : (g : ℕ) (x : Label) → counts g ≡ true → label_in s.labels g ≡ Some x
      → IsCutWithin base c k s.labels (x.arrival - 1) (node_at x.lag g) (cut_in s.cuts g)
  pub none : (g : ℕ) → label_in s.labels g ≡ None → cut_in s.cuts g ≡ []

-- A settling in which every gate counts.
abbrev pub IsSettled : ℕ → Plain → ℕ → ℕ → Settling → Type 0
IsSettled base c k d s = IsSettledOver base c k d (λ g. true) s

-- Some gates count, at least those that lead to an output: the source gate of each output, and of each pin of a gate that counts.
pub record IsSettledForOutputs (base : ℕ) (c : Plain) (k d : ℕ) (s : Settling) : Type 0 where
  pub counts : ℕ → Bool
  pub outputs : (o g : ℕ) → Contains c.outputs o → IsSource c.drives o (Gate g) → counts g ≡ true
  pub pins : (g p h : ℕ) → counts g ≡ true → Contains (pins_of (drive c g)) p → IsSource c.drives p (Gate h) → counts h ≡ true
  pub settled : IsSettledOver base c k d counts s

-- A settling that stops when an output's source gate has lost the label that it needs: then its drops refute the target. Otherwise
-- all gates that lead to an output are settled.
pub record IsSettledOrLost (base : ℕ) (c : Plain) (k d target : ℕ) (s : Settling) : Type 0 where
  pub reached : s.target ≡ target
  pub led : LeadTo base c k d s.target s.drops s.labels
  pub ends : HaveLost (need_of base c) c s.labels ⊎ IsSettledForOutputs base c k d s
