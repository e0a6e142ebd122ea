-- the latches so far
use Rattle.std.proofs.Common.{◌≡◌, map, take, flat_map}
use Rattle.blif_unit.specs.Unit.{telling_of, latch_told, over}
use Rattle.blif_circuit.specs.Circuit.{latches_read}
use Rattle.blif_circuit.specs.Signals.{latch_name, latch_reading}
use Rattle.blif_circuit.proofs.parts.latches_of.Given as goal

abbrev pub invariant-loop-stated : goal.invariant-loop-stated
invariant-loop-stated l = record {
  names : map latch_name l.latches.items ≡ over latch_told (map telling_of (take l.stated-index l.body));
  drives : map (latch_reading l.signals) l.latches.items ≡ flat_map (λ t. latches_read t.what) (map telling_of (take l.stated-index l.body));
}
