use Rattle.std.proofs.Common.{◌≡◌, ◌<◌, ◌*◌, map}
use Rattle.std.specs.List.{range_with_len}
use Rattle.tm_circuit.specs.Plain.{gate}
use Rattle.tm_make.specs.Sample.{number_at, gate_name}
use Rattle.tm_make.specs.SampleCircuit.{gate_drive}
use Rattle.tm_make.proofs.parts.gates.Given as goal

-- the gates up to here, and the number that comes before those of the next one
abbrev pub invariant-loop-index : goal.invariant-loop-index
invariant-loop-index l = record {
  names : map (λ part. part.name) l.gates.items ≡ map gate_name (range_with_len 0 l.index);
  drives : map (λ part. gate part.pins.items part.cover) l.gates.items ≡ map (gate_drive l.number) (range_with_len 0 l.index);
  last : l.last ≡ number_at l.number (3 * l.index);
  below : l.last < 65537;
}
