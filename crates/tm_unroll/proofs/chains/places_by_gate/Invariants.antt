-- the places of the tables so far
use Rattle.std.proofs.Common.{map}
use Rattle.tm_unroll.specs.Mappings.{table_of}
use Rattle.tm_unroll.specs.Depths.{ArePlacesOf}
use Rattle.tm_unroll.proofs.chains.places_by_gate.Given as goal

abbrev pub invariant-loop-place : goal.invariant-loop-place
invariant-loop-place l = ArePlacesOf (map table_of l.luts) l.signals l.place l.places.items
