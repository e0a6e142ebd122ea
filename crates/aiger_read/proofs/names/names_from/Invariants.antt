use Rattle.std.proofs.Common.{◌≡◌, ◌++◌, drop}
use Rattle.aiger_read.specs.Names as spelled
use Rattle.aiger_read.specs.Steps.{maybe_texts}
use Rattle.aiger_read.proofs.names.names_from.Given as goal

-- the names up to here are made
abbrev pub invariant-loop-place : goal.invariant-loop-place
invariant-loop-place l =
    spelled.names_from l.joiner l.letter 0 (maybe_texts l.names) ≡ l.made.items ++ spelled.names_from l.joiner l.letter l.place (maybe_texts (drop l.place l.names))
