use Rattle.std.proofs.Common.{◌≡◌, ◌≤◌, ◌<◌, ◌+◌, ◌++◌, List, [], ◌∷◌, Option, Some, length, map, take, ap, sym, ◌∙◌, subst, arith}
use Rattle.std.proofs.lemmas.List.{take_all}
use Rattle.tm_unroll.specs.declared.node.Lut.{Lut}
use Rattle.tm_unroll.specs.Mappings.{Table, table_of}
use Rattle.tm_absorb.specs.Slots.{present, AreOwn}
use Rattle.tm_absorb.proofs.StartLemmas.{AreSlotsSoFar, slots_more, slots_none}
use Rattle.tm_absorb.proofs.slots.slots_of.Goals as goal

pub loop-lut-init : goal.loop-lut-init
loop-lut-init c = slots_none c.args.luts.now c.args.signals c.in_ok-slots.slots.items c.in_ok-slots.ensures.items

pub pad-requires-clause-few : goal.pad-requires-clause-few
pad-requires-clause-few c =
    let low = c.loop-lut.invariant.low c.loop-lut.lut-index c.lut-item.result (omega arith) c.loop-lut-test.true in
    let here = ap (λ (l : Lut). l.gate) c.lut-item.is in
    omega (arith, low, here, c.place_of.ensures)

pub pad-requires-clause-own : goal.pad-requires-clause-own
pad-requires-clause-own c = c.loop-lut.invariant.own

pub loop-lut-preserved : goal.loop-lut-preserved
loop-lut-preserved c =
    let pad = c.in_ok-pad.ensures in
    slots_more c.args.luts.now c.args.signals c.loop-lut.lut-index c.lut-item.result c.in_ok-copy.copy c.loop-lut.slots.items c.pad.new.slots.items c.push.new.self.items
    c.requires.ascending c.requires.within c.loop-lut-test.true c.lut-item.is c.in_ok-copy.ensures c.loop-lut.invariant pad.own (pad.sized ∙ c.place_of.ensures) pad.present c.in_ok-push.ensures.items
