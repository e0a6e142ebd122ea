-- The moments of a replay: the labels after so many of its drops.
use Rattle.std.specs.Prelude.{◌≡◌, ℕ, List, take, length, Option}
use Rattle.tm_circuit.specs.Plain.{Plain}
use Rattle.tm_replay.specs.declared.label.Label.{Label}
use Rattle.tm_replay.specs.Labels.{first_labels}
use Rattle.tm_replay.specs.Replays.{Drop, Replays, labels_after}

-- The first drops of a list replay, and lead to these labels, one for each signal.
pub record IsMoment (base : ℕ) (c : Plain) (k d target : ℕ) (drops : List Drop) (place : ℕ) (labels : List (Option Label)) : Type 0 where
  pub sized : length labels ≡ length c.drives
  pub replays : Replays base c k target (first_labels c.drives d target) (take place drops)
  pub led : labels ≡ labels_after target (first_labels c.drives d target) (take place drops)
