-- one table more has its end
use Rattle.std.proofs.Common.{◌+◌, ◌<◌, map, length, set, take, ap, sym, subst, arith}
use Rattle.tm_unroll.specs.declared.node.Lut.{Lut}
use Rattle.tm_unroll.specs.Mappings.{table_of}
use Rattle.tm_net.specs.Registers.{AreEnds}
use Rattle.tm_net.proofs.EndLemmas.{table_at, ends_next}
use Rattle.tm_net.proofs.needed.register_ends.Goals as goal

pub index_mut-requires : goal.index_mut-requires
index_mut-requires c =
    let i = c.loop-lut.lut-index in
    let inside : i < length c.args.luts.now = omega arith in
    let low = (table_at c.args.circuit.now c.args.luts.now c.requires i c.lut-item.result inside c.lut-item.is).signal in
    let same = ap (λ (l : Lut). l.gate) c.lut.view_is in
    let sized = c.loop-lut.invariant.sized in
    omega (arith, low, same, sized)

pub loop-lut-preserved : goal.loop-lut-preserved
loop-lut-preserved c =
    let i = c.loop-lut.lut-index in
    let inside : i < length c.args.luts.now = omega arith in
    subst (λ (l : Lut). AreEnds c.args.circuit.now (take (i + 1) (map table_of c.args.luts.now)) (set c.loop-lut.ends.items l.gate l.lag)) (sym c.lut.view_is)
    (ends_next c.args.circuit.now c.args.luts.now c.requires i c.lut-item.result c.loop-lut.ends.items inside c.lut-item.is c.loop-lut.invariant)
