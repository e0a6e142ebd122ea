-- the tables so far
use Rattle.std.proofs.Common.{◌≡◌, map}
use Rattle.tm_unroll.specs.Mappings.{table_of}
use Rattle.tm_absorb.specs.Slots.{present}
use Rattle.tm_absorb.proofs.slots.luts_of.Given as goal

abbrev pub invariant-loop-slot : goal.invariant-loop-slot
invariant-loop-slot l = map table_of l.luts.items ≡ present l.yielded
