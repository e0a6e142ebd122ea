-- The names of a circuit.
use Rattle.std.specs.Prelude.{ℕ, ◌≤◌, List, ◌++◌, length, All}
use Rattle.tm_circuit.specs.Plain.{Plain}
use Rattle.tm_circuit.specs.Sound.{clock_name}

-- The names of the signals and of the clock.
abbrev pub all_names : Plain → List (List ℕ)
all_names c = c.names ++ clock_name c.clock

-- Each name of a signal and of the clock has at most so many bytes.
abbrev pub HasNamesWithin : ℕ → Plain → Type 0
HasNamesWithin most c = All (λ name. length name ≤ most) (all_names c)
