-- The two-way bound of a text: the least period where registers may also move backward, and initial values are left aside.
use Rattle.std.specs.Prelude.{◌≡◌, ℕ, ◌≤◌, List, length}
use Rattle.tm_circuit.specs.Plain.{Plain}
use Rattle.tm_circuit.specs.Sound.{IsSound}
use Rattle.text_read.specs.Texts.{IsCircuitOf}
use Rattle.tm_split.specs.Limits.{most_subject_signals}
use Rattle.tm_split.specs.Subject.{subject_of}
use Rattle.tm_twins.specs.Joined.{IsJoined}
use Rattle.tm_search.specs.Optimal.{IsLeastPeriodOf}
use Rattle.two_way.specs.Least.{IsTwoWayLeast}
use Rattle.tm_texts.specs.Limits.{source_limits}

-- The two-way bound of a subject circuit in which equal latches are one leaf: some lawful two-way mapping of the joined circuit has this
-- period, and none has a smaller one. Where no register may move backward, it is the least period of the mappings that move registers
-- forward alone.
pub record IsBoundOf (k d b : ℕ) (subject : Plain) (period : ℕ) : Type 0 where
  pub joined : Plain
  pub joined_is : IsJoined subject joined
  pub least : IsTwoWayLeast joined k d b period
  pub one_way : b ≡ 0 → IsLeastPeriodOf joined k d period

-- The two-way bound of a text: that of the subject circuit of its circuit, where tables have at most `k` inputs and registers move forward
-- by at most `d` and backward by at most `b`.
pub record IsBound (k d b : ℕ) (text : List ℕ) (period : ℕ) : Type 0 where
  pub source : Plain
  pub of_text : IsCircuitOf source_limits text source
  pub source_sound : IsSound source
  pub few : length (subject_of k source).drives ≤ most_subject_signals
  pub bound : IsBoundOf k d b (subject_of k source) period
