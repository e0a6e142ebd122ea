-- one register more
use Rattle.tm_net.specs.Making.{register_part}
use Rattle.tm_net.proofs.MakeLemmas.{register_more}
use Rattle.tm_net.proofs.parts.add_registers.Goals as goal

pub loop-advance-preserved : goal.loop-advance-preserved
loop-advance-preserved c =
    register_more (register_part c.args.circuit.now c.args.plan.now.layout c.args.plan.now.starts) _ c.index-low.result.now c.loop-advance.advance c.args.latches.now.items
    c.loop-advance.latches.items c.push.new.self.items c.in_ok-register.field-0 c.loop-advance.auto.advance c.loop-advance.invariant c.in_ok-register.ensures c.in_ok-push.ensures.items
