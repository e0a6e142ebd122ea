-- the parts by the plan
use Rattle.std.proofs.Common.{◌≡◌, List, map, length, ◌∙◌, ap}
use Rattle.std.proofs.lemmas.List.{length-map}
use Rattle.tm_circuit.specs.declared.parts.Parts.{Parts}
use Rattle.tm_circuit.specs.declared.parts.LatchPart.{LatchPart}
use Rattle.tm_unroll.specs.Mappings.{table_of}
use Rattle.tm_mapped.specs.Mapped.{clock_for}
use Rattle.tm_net.specs.Layouts.{registers_of}
use Rattle.tm_net.specs.Making.{register_part}
use Rattle.tm_net.proofs.MakeLemmas.{tables_fit, outputs_numbered}
use Rattle.tm_net.proofs.WholeLemmas.{AreMade, parts_mapped}
use Rattle.tm_net.proofs.net.mapped_parts.Goals as goal

pub gates-requires-clause-tables : goal.gates-requires-clause-tables
gates-requires-clause-tables c =
    tables_fit c.args.circuit.now (map table_of c.args.luts.now) c.in_ok-plan.plan.layout c.signals-sound.ensures.sound c.requires c.in_ok-plan.ensures.layout

pub outputs-requires-clause-outputs : goal.outputs-requires-clause-outputs
outputs-requires-clause-outputs c =
    outputs_numbered c.args.circuit.now (map table_of c.args.luts.now) c.in_ok-plan.plan.layout c.signals-sound.ensures.sound c.requires c.in_ok-plan.ensures.layout

pub returns : goal.returns
returns c =
    let layout = c.in_ok-plan.plan.layout in
    let starts = c.in_ok-plan.plan.starts in
    let registers : length c.in_ok-latches.latches.items ≡ length (registers_of c.args.circuit.now layout) =
    ap (λ (ls : List LatchPart). length ls) c.in_ok-latches.ensures ∙ length-map (registers_of c.args.circuit.now layout) (register_part c.args.circuit.now layout starts) in
    let count : c.len.result ≡ length (registers_of c.args.circuit.now layout) = c.len.ensures ∙ (c.in_ok-latches.latches.ok.0 ∙ registers) in
    let parts : Parts = record {
      model = c.in_ok-try_clone.field-0;
      clock = c.in_ok-clock.field-0;
      inputs = c.in_ok-inputs.field-0;
      latches = c.in_ok-latches.latches;
      gates = c.in_ok-gates.field-0;
      outputs = c.in_ok-outputs.field-0;
    } in
    let made : AreMade c.args.circuit.now (map table_of c.args.luts.now) layout starts parts = record {
      model = c.in_ok-try_clone.ensures ∙ c.model.ensures;
      clock = c.in_ok-clock.ensures ∙ ap (λ n. clock_for n c.args.circuit.now.clock) count;
      inputs = c.in_ok-inputs.ensures;
      latches = c.in_ok-latches.ensures;
      gates = c.in_ok-gates.ensures;
      outputs = c.in_ok-outputs.ensures;
      first = c.in_ok-plan.ensures.first;
      lags = c.in_ok-plan.ensures.lags;
    } in
    parts_mapped c.args.circuit.now (map table_of c.args.luts.now) layout starts parts c.signals-sound.ensures.sound c.requires c.in_ok-plan.ensures.layout made
