use Rattle.std.proofs.Common.{◌≡◌, ◌+◌, length, take}
use Rattle.aiger_read.specs.Symbols.{slot_count, symbol_lines, names_given}
use Rattle.aiger_read.specs.Steps.{texts, maybe_texts, IsLawfulTo}
use Rattle.aiger_read.proofs.symbols.names_on.Given as goal

-- the symbols up to here are read
abbrev pub invariant-loop-k : goal.invariant-loop-k
invariant-loop-k l = record {
  lawful : IsLawfulTo (texts l.lines) (l.first + l.k);
  sized : length l.names.items ≡ slot_count l.header;
  names : maybe_texts l.names.items ≡ names_given l.header (take l.k (symbol_lines l.header (texts l.lines)));
}
