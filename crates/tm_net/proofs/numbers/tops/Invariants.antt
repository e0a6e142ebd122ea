-- each signal's own number, and then the roots of the tables so far
use Rattle.std.proofs.Common.{map, take}
use Rattle.tm_unroll.specs.Mappings.{table_of}
use Rattle.tm_net.specs.Layouts.{AreTops}
use Rattle.tm_net.proofs.NumberLemmas.{AreOwn}
use Rattle.tm_net.proofs.numbers.tops.Given as goal

abbrev pub invariant-loop-s : goal.invariant-loop-s
invariant-loop-s l = AreOwn l.s l.tops.items

abbrev pub invariant-loop-place : goal.invariant-loop-place
invariant-loop-place l = AreTops (take l.place (map table_of l.luts)) l.first l.signals l.tops.items
