-- The longest run of `@`, of byte 64, in names.
use Rattle.std.specs.Prelude.{ℕ, List, map}
use Rattle.tm_circuit.specs.Plain.{greatest}
use Rattle.tm_parts.specs.Runs.{longest_run}

abbrev pub run_in : List (List ℕ) → ℕ
run_in names = greatest (map (longest_run 64) names)
