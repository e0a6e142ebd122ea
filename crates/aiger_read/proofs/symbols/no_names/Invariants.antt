use Rattle.std.proofs.Common.{◌≡◌, length, replicate, None}
use Rattle.aiger_read.proofs.symbols.no_names.Given as goal

abbrev pub invariant-loop-slot : goal.invariant-loop-slot
invariant-loop-slot l = (l.names.items ≡ replicate l._slot None) × (length l.names.items ≡ l._slot)
