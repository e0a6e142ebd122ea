use Rattle.std.proofs.Common.{◌≡◌, map}
use Rattle.std.specs.List.{range_with_len}
use Rattle.tm_circuit.specs.Plain.{latch}
use Rattle.tm_make.specs.Sample.{latch_name}
use Rattle.tm_make.specs.SampleCircuit.{latch_drive}
use Rattle.tm_make.proofs.parts.latches.Given as goal

-- the latches up to here
abbrev pub invariant-loop-index : goal.invariant-loop-index
invariant-loop-index l = record {
  names : map (λ part. part.name) l.latches.items ≡ map latch_name (range_with_len 0 l.index);
  drives : map (λ part. latch part.next part.init) l.latches.items ≡ map (latch_drive l.number) (range_with_len 0 l.index);
}
