-- the inputs so far
use Rattle.std.proofs.Common.{◌≡◌, ◌++◌, take, option_copied}
use Rattle.blif_circuit.specs.Signals.{unclocked}
use Rattle.blif_circuit.proofs.parts.push_inputs.Given as goal

abbrev pub invariant-loop-name : goal.invariant-loop-name
invariant-loop-name l = l.inputs.items ≡ l.initial.inputs.items ++ unclocked (option_copied l.clock) (take l.name-index l.names)
