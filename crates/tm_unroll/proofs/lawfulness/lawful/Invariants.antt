-- the tables so far pass
use Rattle.tm_unroll.specs.Mappings.{tables_of}
use Rattle.tm_unroll.specs.Faults.{PassBelow}
use Rattle.tm_unroll.proofs.lawfulness.lawful.Given as goal

abbrev pub invariant-loop-place : goal.invariant-loop-place
invariant-loop-place l = PassBelow 0 l.circuit l.k l.d (tables_of l.mapping) l.place
