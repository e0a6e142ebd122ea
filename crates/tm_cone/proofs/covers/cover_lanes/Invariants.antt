-- the words say where one of the rows so far agrees
use Rattle.tm_cone.proofs.CoverLemmas.{SomeSoFar}
use Rattle.tm_cone.proofs.covers.cover_lanes.Given as goal

abbrev pub invariant-loop-row : goal.invariant-loop-row
invariant-loop-row l = SomeSoFar l.cover.rows l.pins l.row-index l.some
