-- the registers of one signal more
use Rattle.tm_net.specs.Making.{register_part}
use Rattle.tm_net.proofs.MakeLemmas.{registers_more}
use Rattle.tm_net.proofs.parts.registers.Goals as goal

pub loop-s-preserved : goal.loop-s-preserved
loop-s-preserved c =
    registers_more (register_part c.args.circuit.now c.args.plan.now.layout c.args.plan.now.starts) c.args.plan.now.layout.lows.items c.args.plan.now.layout.ends.items c.loop-s.s
    c.loop-s.latches.items c.add_registers.new.latches.items c.loop-s.invariant c.in_ok-add_registers.ensures
