-- what was put so far
use Rattle.std.proofs.Common.{◌≡◌, map, take, option_copied}
use Rattle.blif_unit.specs.Unit.{telling_of, inputs_told, over}
use Rattle.blif_circuit.specs.Signals.{put_all, unclocked}
use Rattle.blif_circuit.proofs.order.put_inputs.Given as goal

abbrev pub invariant-loop-stated : goal.invariant-loop-stated
invariant-loop-stated l = l.names ≡ put_all l.initial.names (over (λ told. unclocked (option_copied l.clock) (inputs_told told)) (map telling_of (take l.stated-index l.body)))
