-- One pin more is met.
use Rattle.std.proofs.Common.{◌<◌, map, length, subst, arith}
use Rattle.std.proofs.lemmas.List.{take_all}
use Rattle.tm_unroll.specs.Nodes.{node_at}
use Rattle.tm_unroll.specs.Searches.{MeetsMore}
use Rattle.tm_unroll.proofs.SearchLemmas.{pins_more}
use Rattle.tm_unroll.proofs.cover.Search.meet_pins.Goals as goal

pub loop-pin-preserved : goal.loop-pin-preserved
loop-pin-preserved c =
    let within : c.loop-pin.pin-index < length c.args.pins.now = omega arith in
    pins_more c.args.self.now c.loop-pin.self c.meet.new.self c.args.pins.now c.args.advance c.loop-pin.pin-index c.pin-item.result c.loop-pin.invariant within c.pin-item.is
    c.in_ok-meet.ensures

pub returns : goal.returns
returns c =
    subst (λ ps. MeetsMore (map (λ p. node_at c.args.advance p) ps) c.args.self.now c.loop-pin.self)
    (take_all c.loop-pin.pin-index c.args.pins.now (omega (arith, c.loop-pin-test.false))) c.loop-pin.invariant
