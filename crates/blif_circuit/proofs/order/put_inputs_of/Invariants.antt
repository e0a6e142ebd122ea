-- what was put so far
use Rattle.std.proofs.Common.{◌≡◌, take, option_copied}
use Rattle.blif_circuit.specs.Signals.{put_all, unclocked}
use Rattle.blif_circuit.proofs.order.put_inputs_of.Given as goal

abbrev pub invariant-loop-input : goal.invariant-loop-input
invariant-loop-input l = l.names ≡ put_all l.initial.names (unclocked (option_copied l.clock) (take l.input-index l.inputs))
