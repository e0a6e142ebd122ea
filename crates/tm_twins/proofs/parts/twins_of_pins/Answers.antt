use Rattle.std.proofs.Common.{ap, map, ◌∙◌}
use Rattle.std.proofs.lemmas.List.{take_all}
use Rattle.tm_twins.specs.Twins.{twin_in}
use Rattle.tm_twins.proofs.Growing.{twins_more}
use Rattle.tm_twins.proofs.parts.twins_of_pins.Goals as goal

pub loop-pin-preserved : goal.loop-pin-preserved
loop-pin-preserved c =
    twins_more c.args.twins.now c.args.pins.now c.loop-pin.joined.items c.push.new.self.items c.loop-pin.pin-index _ c.pin-item.result c.index-twins-pin.result
    c.loop-pin.invariant c.requires c.loop-pin-test.true c.pin-item.is c.pin.view_is c.index-twins-pin.is c.in_ok-push.ensures.ok

pub returns : goal.returns
returns c = c.loop-pin.invariant ∙ ap (λ xs. map (twin_in c.args.twins.now) xs) (take_all c.loop-pin.pin-index c.args.pins.now c.loop-pin-test.false)
