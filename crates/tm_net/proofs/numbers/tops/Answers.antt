-- one table more
use Rattle.std.proofs.Common.{◌+◌, ◌<◌, map, length, set, take, ap, sym, subst, arith}
use Rattle.tm_unroll.specs.declared.node.Lut.{Lut}
use Rattle.tm_unroll.specs.Mappings.{table_of}
use Rattle.tm_net.specs.Layouts.{AreTops}
use Rattle.tm_net.proofs.NumberLemmas.{tops_next}
use Rattle.tm_net.proofs.numbers.tops.Goals as goal

pub loop-place-preserved : goal.loop-place-preserved
loop-place-preserved c =
    let i = c.loop-place.place in
    let lut = c.index-luts-place.result in
    let inside : i < length c.args.luts.now = omega arith in
    let low = c.requires.gates i lut inside in
    let same = ap (λ (l : Lut). l.gate) c.index-luts-place.is in
    let within : lut.gate < c.args.signals = omega (arith, low, same) in
    subst (λ (l : Lut). AreTops (take (i + 1) (map table_of c.args.luts.now)) c.args.first c.args.signals (set c.loop-place.tops.items l.gate (c.args.first + i)))
    (sym c.lut.view_is)
    (tops_next c.args.luts.now c.args.first c.args.signals i lut c.loop-place.tops.items c.requires.ascending inside c.index-luts-place.is within c.loop-place.invariant)
