-- one table more has its place
use Rattle.std.proofs.Common.{◌+◌, ◌<◌, Some, map, length, set, ap, sym, subst, arith}
use Rattle.tm_unroll.specs.declared.node.Lut.{Lut}
use Rattle.tm_unroll.specs.Mappings.{table_of}
use Rattle.tm_unroll.specs.Depths.{ArePlacesOf}
use Rattle.tm_unroll.proofs.PlaceLemmas.{place_next}
use Rattle.tm_unroll.proofs.chains.places_by_gate.Goals as goal

pub loop-place-preserved : goal.loop-place-preserved
loop-place-preserved c =
    let i = c.loop-place.place in
    let lut = c.index-luts-place.result in
    let inside : i < length c.args.luts.now = omega arith in
    let low = c.requires.within i lut inside in
    let same = ap (λ (l : Lut). l.gate) c.index-luts-place.is in
    let within : lut.gate < c.args.signals = omega (arith, low, same) in
    subst (λ n. ArePlacesOf (map table_of c.args.luts.now) c.args.signals (i + 1) (set c.loop-place.places.items n (Some i)))
    (sym (ap (λ (l : Lut). l.gate) c.lut.view_is))
    (place_next c.args.luts.now c.args.signals i c.loop-place.places.items lut c.requires.ascending c.loop-place.invariant inside c.index-luts-place.is within)
