use Rattle.std.proofs.Common.{◌≡◌, true, map, take}
use Rattle.std.specs.List.{list_all}
use Rattle.aiger_read.specs.Lines.{is_number, number_in}
use Rattle.aiger_read.specs.Steps.{texts}
use Rattle.aiger_read.proofs.lines.numbers_of.Given as goal

-- the words up to here are numbers
abbrev pub invariant-loop-word : goal.invariant-loop-word
invariant-loop-word l = (list_all is_number (texts (take l.word-index l.words)) ≡ true) × (l.numbers.items ≡ map number_in (texts (take l.word-index l.words)))
