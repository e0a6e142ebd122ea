-- What a circuit has to be so that it can be mapped.
use Rattle.std.specs.Prelude.{ℕ, ◌≤◌, length, All, IfSome}
use Rattle.tm_circuit.specs.Plain.{Plain}
use Rattle.tm_parts.specs.Limits.{most_signals_to_map, longest_name_to_map, longest_plus_run, longest_clock_name}
use Rattle.tm_parts.specs.Names.{all_names, HasNamesWithin}
use Rattle.tm_parts.specs.Runs.{HasRunsWithin}

-- The byte `+`, which stands between the name of a signal and a lag in the names of a mapped circuit.
abbrev pub plus : ℕ
plus = 43

-- There are at most 100,000 signals, names have at most 517 bytes, no name of a signal or of the clock has a run of `+` that
-- is longer than 255, and the clock's name has at most 255 bytes.
pub record FitsMapping (c : Plain) : Type 0 where
  pub few : length c.drives ≤ most_signals_to_map
  pub names : HasNamesWithin longest_name_to_map c
  pub runs : All (HasRunsWithin plus longest_plus_run) (all_names c)
  pub clock : IfSome c.clock (λ clock. length clock.name ≤ longest_clock_name)
