-- How many new gates there are, told from the rows alone.
use Rattle.std.specs.Prelude.{◌≡◌, ℕ, suc, ◌<◌, ◌==◌, Bool, true, false, List, length, min, sum_by, count_by, slice_index, if◌then◌else◌}
use Rattle.std.specs.List.{list_any}
use Rattle.tm_bits.specs.declared.cover.Place.{Place}
use Rattle.tm_bits.specs.declared.cover.Place.TheVariants.{Zero, One, Any}
use Rattle.tm_circuit.specs.Plain.{Drive}
use Rattle.tm_split.specs.Limits.{most_subject_signals}
use Rattle.tm_split.specs.Subject.{number}

-- A place that gives a literal.
abbrev pub asks : Place → Bool
asks Zero = true
asks One = true
asks Any = false

-- How many literals a row has.
abbrev pub literal_count : List Place → ℕ
literal_count row = count_by asks row

-- How many literals some rows have; 0 where some row has none.
abbrev pub literal_total : List (List Place) → ℕ
literal_total rows = if list_any (λ row. literal_count row == 0) rows then 0 else sum_by literal_count rows

-- A count is right, or both are past the most signals of a subject circuit.
abbrev pub IsCountOf : ℕ → ℕ → Type 0
IsCountOf count exact = min count (suc most_subject_signals) ≡ min exact (suc most_subject_signals)

-- The numbers of the signals of a circuit in its subject circuit.
pub record AreNumbers (k : ℕ) (drives : List Drive) (numbers : List ℕ) : Type 0 where
  pub all : length numbers ≡ length drives
  pub each : (s : ℕ) → s < length drives → slice_index numbers s ≡ number k drives s
