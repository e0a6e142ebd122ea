-- the least line so far
use Rattle.std.proofs.Common.{◌≡◌, ◌||◌, not, map, take, filter, option_copied, bytes_eq, List, ℕ}
use Rattle.std.specs.List.{list_any}
use Rattle.blif_unit.specs.declared.unit.Stated.{Stated}
use Rattle.blif_unit.specs.Unit.{told_of, uses_told}
use Rattle.blif_circuit.specs.Circuit.{is_named, least}
use Rattle.blif_circuit.proofs.uses.least_undriven.Given as goal

abbrev pub invariant-loop-stated : goal.invariant-loop-stated
invariant-loop-stated l = l.found ≡ least (map (λ (s : Stated). s.line) (filter (λ (s : Stated). list_any (λ (n : List ℕ). not (list_any (bytes_eq n) l.signals || is_named (option_copied l.clock) n)) (uses_told (told_of s.what))) (take l.stated-index l.body)))
