-- After the last step all that were asked for are there.
use Rattle.std.proofs.Common.{arith}
use Rattle.tm_init.proofs.StartLemmas.{started, serves}
use Rattle.tm_init.proofs.starts.first_steps.Goals as goal

pub returns-clause-first : goal.returns-clause-first
returns-clause-first c =
    started c.args.circuit.now c.args.d c.loop-step.step c.loop-step.bytes.items c.loop-step.read.items (omega arith) c.loop-step.invariant

pub returns-clause-all_inputs : goal.returns-clause-all_inputs
returns-clause-all_inputs c =
    serves c.args.circuit.now c.args.d (record { steps = c.args.d; bytes = c.loop-step.bytes.items }) c.signals.ensures.sound (started c.args.circuit.now c.args.d c.loop-step.step c.loop-step.bytes.items c.loop-step.read.items (omega arith) c.loop-step.invariant)
