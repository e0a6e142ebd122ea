-- The sources of the pins of one find after another are marked, and there are no more finds than signals.
use Rattle.std.proofs.Common.{◌<◌, length, refl, arith}
use Rattle.std.proofs.lemmas.Option.{slice_get_read}
use Rattle.tm_unroll.proofs.EachLemmas.{stands-at}
use Rattle.tm_merge.proofs.LeadingLemmas.{few_found, marked_below, leading_first, leading_next, leading_all}
use Rattle.tm_merge.proofs.outputs.leads_to_output.Goals as goal

pub loop-place-init : goal.loop-place-init
loop-place-init c =
    leading_first c.args.circuit.now c.outputs.result.now c.in_ok-marking.marking c.mark_sources.new.self c.outputs.ensures c.in_ok-marking.ensures.sized c.in_ok-mark_sources.ensures

pub pins_of-requires : goal.pins_of-requires
pins_of-requires c =
    let m = c.loop-place.marking in
    let within : c.loop-place.place < length m.found.items = omega arith in
    let g = c.index-gate.result.now in
    let below = marked_below m.marks.items g (c.loop-place.invariant.marking.marked g (stands-at m.found.items c.loop-place.place g within c.index-gate.ensures)) in
    omega (arith, below, c.loop-place.invariant.sized)

pub loop-place-preserved : goal.loop-place-preserved
loop-place-preserved c =
    let m = c.loop-place.marking in
    let within : c.loop-place.place < length m.found.items = omega arith in
    let g = c.index-gate.result.now in
    leading_next c.args.circuit.now c.loop-place.place g c.pins_of.result.now m c.mark_sources-in-loop-place.new.self c.loop-place.invariant
    (slice_get_read m.found.items (length m.found.items) c.loop-place.place g refl within c.index-gate.ensures) c.pins_of.ensures.pins c.in_ok-mark_sources-2.ensures

pub loop-place-smaller : goal.loop-place-smaller
loop-place-smaller c =
    let few = few_found c.loop-place.marking c.loop-place.invariant.marking in
    omega (arith, few, c.loop-place.invariant.sized)

pub returns : goal.returns
returns c = leading_all c.args.circuit.now c.loop-place.place c.loop-place.marking c.loop-place.invariant (omega arith)
