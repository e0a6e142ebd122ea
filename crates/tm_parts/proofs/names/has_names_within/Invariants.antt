-- the names so far are short
use Rattle.std.proofs.Common.{◌≤◌, length, take}
use Rattle.std.specs.Prelude.{All}
use Rattle.tm_parts.proofs.names.has_names_within.Given as goal

abbrev pub invariant-loop-s : goal.invariant-loop-s
invariant-loop-s l = All (λ name. length name ≤ l.most) (take l.s l.circuit.names)
