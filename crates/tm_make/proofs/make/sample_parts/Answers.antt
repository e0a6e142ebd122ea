use Rattle.std.proofs.Common.{◌∙◌, ap, refl, map, None, List, ℕ}
use Rattle.std.specs.List.{range_with_len}
use Rattle.tm_circuit.specs.declared.parts.Parts.{Parts}
use Rattle.tm_circuit.specs.declared.parts.LatchPart.{LatchPart}
use Rattle.tm_circuit.specs.declared.parts.GatePart.{GatePart}
use Rattle.tm_circuit.specs.Plain.{input, latch, gate}
use Rattle.tm_circuit.specs.Build.{circuit_of}
use Rattle.tm_make.specs.Sample.{input_name, latch_name, gate_name, latches_of}
use Rattle.tm_make.specs.SampleCircuit.{latch_drive, gate_drive}
use Rattle.tm_make.proofs.CircuitLemmas.{sample_circuit_is, in_a_row}
use Rattle.tm_make.proofs.make.sample_parts.Goals as goal

pub returns : goal.returns
returns c =
    let n = c.args.number in
    let ins = c.in_ok-inputs.inputs.items in
    let latches = c.in_ok-latches.latches.items in
    let gates = c.in_ok-gates.gates.items in
    let parts : Parts = record {
      model = c.new-model.result;
      clock = None;
      inputs = c.in_ok-inputs.inputs;
      latches = c.in_ok-latches.latches;
      gates = c.in_ok-gates.gates;
      outputs = c.in_ok-outputs.outputs;
    } in
    sample_circuit_is n (circuit_of parts) (c.new-model.ensures ∙ c.in_ok-from_slice.ensures.items) refl
    (in_a_row ins (map input_name (range_with_len 0 8)) (map (λ (part : LatchPart). part.name) latches) (map latch_name (range_with_len 0 (latches_of n)))
    (map (λ (part : GatePart). part.name) gates) (map gate_name (range_with_len 0 n)) c.in_ok-inputs.ensures c.in_ok-latches.ensures.names c.in_ok-gates.ensures.names)
    (in_a_row (map (λ (name : List ℕ). input) ins) (map (λ (j : ℕ). input) (range_with_len 0 8))
    (map (λ (part : LatchPart). latch part.next part.init) latches) (map (latch_drive n) (range_with_len 0 (latches_of n)))
    (map (λ (part : GatePart). gate part.pins.items part.cover) gates) (map (gate_drive n) (range_with_len 0 n))
    (ap (map (λ (name : List ℕ). input)) c.in_ok-inputs.ensures) c.in_ok-latches.ensures.drives c.in_ok-gates.ensures.drives)
    c.in_ok-outputs.ensures
