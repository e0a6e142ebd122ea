-- the registers of the signals so far
use Rattle.std.proofs.Common.{◌≡◌, map}
use Rattle.tm_net.specs.Registers.{registers_before}
use Rattle.tm_net.specs.Making.{register_part}
use Rattle.tm_net.proofs.parts.registers.Given as goal

abbrev pub invariant-loop-s : goal.invariant-loop-s
invariant-loop-s l = l.latches.items ≡ map (register_part l.circuit l.plan.layout l.plan.starts) (registers_before l.plan.layout.lows.items l.plan.layout.ends.items l.s)
