-- the gates so far
use Rattle.std.proofs.Common.{◌≡◌, map, take, flat_map}
use Rattle.blif_unit.specs.Unit.{telling_of, gate_told, over}
use Rattle.blif_circuit.specs.Circuit.{gates_read}
use Rattle.blif_circuit.specs.Signals.{gate_name, gate_reading}
use Rattle.blif_circuit.proofs.parts.gates_of.Given as goal

abbrev pub invariant-loop-stated : goal.invariant-loop-stated
invariant-loop-stated l = record {
  names : map gate_name l.gates.items ≡ over gate_told (map telling_of (take l.stated-index l.body));
  drives : map (gate_reading l.signals) l.gates.items ≡ flat_map (λ t. gates_read t.what) (map telling_of (take l.stated-index l.body));
}
