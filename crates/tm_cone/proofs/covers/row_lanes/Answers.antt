-- A place and a pin are taken at a time, until there is none of one kind.
use Rattle.std.proofs.Common.{rules}
use Rattle.std.proofs.lemmas.Slice.Zip.{either_empty_from_Zip}
use Rattle.tm_cone.proofs.CoverLemmas.{agree_starts, agree_more, agree_ends}
use Rattle.tm_cone.proofs.covers.row_lanes.Goals as goal

pub loop-place-init : goal.loop-place-init
loop-place-init c = agree_starts _ _ _ _ _ (search rules) (search rules) c.ones-all.ensures

pub loop-place-preserved : goal.loop-place-preserved
loop-place-preserved c =
    agree_more c.args.places.now c.args.pins.now _ _ _ _ _ _ _ _ c.loop-place.invariant c.in-Some.ensures.steps.0 c.in-Some.ensures.steps.1 c.with_place-all.ensures

pub returns : goal.returns
returns c = agree_ends c.args.places.now c.args.pins.now _ _ _ c.loop-place.invariant (either_empty_from_Zip c.loop-place.place-iterator c.next.new.self c.next.result c.in-None.is c.next.ensures.steps)
