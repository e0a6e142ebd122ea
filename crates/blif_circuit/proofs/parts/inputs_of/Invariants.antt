-- the inputs so far
use Rattle.std.proofs.Common.{◌≡◌, map, take, option_copied}
use Rattle.blif_unit.specs.Unit.{telling_of, inputs_told, over}
use Rattle.blif_circuit.specs.Signals.{unclocked}
use Rattle.blif_circuit.proofs.parts.inputs_of.Given as goal

abbrev pub invariant-loop-stated : goal.invariant-loop-stated
invariant-loop-stated l = l.inputs.items ≡ over (λ told. unclocked (option_copied l.clock) (inputs_told told)) (map telling_of (take l.stated-index l.body))
