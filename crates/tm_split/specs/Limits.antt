-- The limits of the splitter, as numbers.
use Rattle.std.specs.Prelude.{ℕ}
use Rattle.tm_parts.specs.Limits.{most_signals_to_map}

-- The most signals that a subject circuit may have: as many as a circuit that is mapped, 100,000.
abbrev pub most_subject_signals : ℕ
most_subject_signals = most_signals_to_map

-- The most bytes of a name of a signal or of the clock in a circuit that is split.
abbrev pub longest_name_to_split : ℕ
longest_name_to_split = 255
