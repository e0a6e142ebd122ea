-- One pin more is met.
use Rattle.std.proofs.Common.{◌<◌, map, length, subst, arith}
use Rattle.std.proofs.lemmas.List.{take_all}
use Rattle.tm_unroll.specs.Nodes.{node_at}
use Rattle.tm_cone.specs.Searches.{Meets}
use Rattle.tm_cone.proofs.MeetLemmas.{meets_none, pins_more}
use Rattle.tm_cone.proofs.nodes.meet_pins.Goals as goal

pub loop-pin-init : goal.loop-pin-init
loop-pin-init c = meets_none c.args.met.now.keys

pub loop-pin-preserved : goal.loop-pin-preserved
loop-pin-preserved c =
    let within : c.loop-pin.pin-index < length c.args.pins.now = omega arith in
    pins_more c.args.met.now.keys c.loop-pin.met.keys c.meet.new.met.keys c.args.pins.now c.args.advance c.loop-pin.pin-index c.pin-item.result c.loop-pin.invariant within c.pin-item.is
    c.in_ok-meet.ensures

pub returns : goal.returns
returns c =
    subst (λ ps. Meets (map (λ p. node_at c.args.advance p) ps) c.args.met.now.keys c.loop-pin.met.keys)
    (take_all c.loop-pin.pin-index c.args.pins.now (omega (arith, c.loop-pin-test.false))) c.loop-pin.invariant
