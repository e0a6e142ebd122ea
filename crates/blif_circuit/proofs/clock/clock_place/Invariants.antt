-- the inputs before are counted, and the name is not among them
use Rattle.std.proofs.Common.{◌≡◌, ◌+◌, map, drop, length, option_map, position, bytes_eq}
use Rattle.blif_unit.specs.Unit.{telling_of, inputs_told, over}
use Rattle.blif_circuit.proofs.clock.clock_place.Given as goal

abbrev pub invariant-loop-stated : goal.invariant-loop-stated
invariant-loop-stated l = record {
  place : option_map (λ n. l.before + n) (position (bytes_eq l.name) (over inputs_told (map telling_of (drop l.stated-index l.body)))) ≡ position (bytes_eq l.name) (over inputs_told (map telling_of l.body));
  count : l.before + length (over inputs_told (map telling_of (drop l.stated-index l.body))) ≡ length (over inputs_told (map telling_of l.body));
}
