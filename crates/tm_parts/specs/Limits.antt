-- The limits of a circuit that is mapped, as numbers.
use Rattle.std.specs.Prelude.{ℕ}

-- The most signals.
abbrev pub most_signals_to_map : ℕ
most_signals_to_map = 100000

-- The most bytes of a name.
abbrev pub longest_name_to_map : ℕ
longest_name_to_map = 517

-- The longest run of `+` in a name of a signal or of the clock.
abbrev pub longest_plus_run : ℕ
longest_plus_run = 255

-- The most bytes of the clock's name.
abbrev pub longest_clock_name : ℕ
longest_clock_name = 255
