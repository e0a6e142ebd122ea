-- The least target at which each output keeps its label, with the settling at it and the one below that refutes.
use Rattle.std.specs.Prelude.{◌≡◌, ℕ, suc, MatchOption}
use Rattle.tm_circuit.specs.Plain.{Plain}
use Rattle.tm_unroll.specs.Latches.{need_of}
use Rattle.tm_replay.specs.Replays.{HaveLost}
use Rattle.tm_labels.specs.Settled.{Settling, LeadTo, IsSettledForOutputs}
use Rattle.tm_search.specs.declared.least.Least.{Least}

-- A settling for a target below a period that refutes it: its drops replay, and the source gate of some output has lost its label.
pub record Refutes (base : ℕ) (c : Plain) (k d period : ℕ) (s : Settling) : Type 0 where
  pub target : suc s.target ≡ period
  pub led : LeadTo base c k d s.target s.drops s.labels
  pub lost : HaveLost (need_of base c) c s.labels

-- A settling for a period at which no output has lost its label, of at least the gates that lead to an output.
pub record Reaches (base : ℕ) (c : Plain) (k d period : ℕ) (s : Settling) : Type 0 where
  pub target : s.target ≡ period
  pub settled : IsSettledForOutputs base c k d s
  pub kept : HaveLost (need_of base c) c s.labels → ⊥

-- The least period: the settling at it reaches it, and none is below where it is 0, else one that refutes the target just below.
pub record IsLeast (base : ℕ) (c : Plain) (k d : ℕ) (least : Least) : Type 0 where
  pub at : Reaches base c k d least.period least.at
  pub below : MatchOption least.below (least.period ≡ 0) (Refutes base c k d least.period)
