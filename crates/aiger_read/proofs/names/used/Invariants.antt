use Rattle.std.proofs.Common.{◌≡◌, ◌++◌, length, drop}
use Rattle.aiger_read.specs.Names.{used, used_after}
use Rattle.aiger_read.specs.Steps.{maybe_texts}
use Rattle.aiger_read.proofs.names.used.Given as goal

-- the names up to here are tested
abbrev pub invariant-loop-name : goal.invariant-loop-name
invariant-loop-name l = record {
  names : used l.most (maybe_texts l.names) ≡ maybe_texts l.found.items ++ used_after l.most l.seen (maybe_texts (drop l.name-index l.names));
  sized : length l.found.items ≡ l.name-index;
}
