-- the words so far and what is left come to the whole row
use Rattle.tm_cone.proofs.CoverLemmas.{AgreeSoFar}
use Rattle.tm_cone.proofs.covers.row_lanes.Given as goal

abbrev pub invariant-loop-place : goal.invariant-loop-place
invariant-loop-place l = AgreeSoFar l.places l.pins l.place-iterator.a.rest.now l.place-iterator.b.rest.now l.all
