-- Each part is what the circuit has there.
use Rattle.std.proofs.Common.{◌≡◌, ℕ, ◌+◌, ◌-◌, List, ◌++◌, map, length, take, drop, Option, None, Bor, refl, ap, ap₂, ◌∙◌, arith, rules}
use Rattle.std.specs.List.{range_with_len}
use Rattle.std.proofs.lemmas.List.{take_rest, length-map}
use Rattle.tm_circuit.specs.declared.parts.Parts.{Parts}
use Rattle.aiger_read.specs.declared.statement.LatchLine.{LatchLine}
use Rattle.aiger_read.specs.declared.statement.AndLine.{AndLine}
use Rattle.aiger_read.specs.Statements.{variable_of}
use Rattle.aiger_read.specs.Names.{made_name, names_from}
use Rattle.aiger_read.specs.Circuit.{Sections, latch_drives, made_names, made_nexts, gate_drives}
use Rattle.aiger_read.specs.Steps.{maybe_texts}
use Rattle.aiger_read.specs.Making.{sections_of}
use Rattle.aiger_read.proofs.PartLemmas.{parts_spelled, texts-take, texts-drop}
use Rattle.aiger_read.proofs.StepLemmas.{text_of}
use Rattle.aiger_read.proofs.parts.parts_of.Goals as goal

pub returns : goal.returns
returns c =
    let h = c.args.header.now in
    let s : Sections = sections_of c.args.sections.now in
    let names : List (Option (Bor (List ℕ))) = c.args.names.now in
    let joiner : List ℕ = c.args.joiner.now in
    let lasts : maybe_texts (take (length names - (h.inputs + h.outputs)) (drop (h.inputs + h.outputs) names)) ≡ drop (h.inputs + h.outputs) (maybe_texts names)
    = ap maybe_texts (take_rest names (h.inputs + h.outputs)) ∙ texts-drop (h.inputs + h.outputs) names in
    let count : (h.inputs + h.outputs) - h.inputs ≡ h.outputs = omega arith in
    let outs : maybe_texts (take ((h.inputs + h.outputs) - h.inputs) (drop h.inputs names)) ≡ take h.outputs (drop h.inputs (maybe_texts names))
    = ap (λ (n : ℕ). maybe_texts (take n (drop h.inputs names))) count ∙ texts-take h.outputs (drop h.inputs names) ∙ ap (take h.outputs) (texts-drop h.inputs names) in
    let sized : length (maybe_texts names) ≡ length names = length-map names text_of in
    let first : c.len.result + c.made_count.result ≡ length c.args.variables.now + length (made_nexts c.args.sections.now.latches.items)
    = ap₂ (λ (a b : ℕ). a + b) c.len.ensures (c.made_count.ensures.count ∙ ap (λ (ls : List LatchLine). length (made_nexts ls)) c.deref.ensures.value) in
    let many : c.len-2.result ≡ length c.args.sections.now.outputs.items = search rules in
    let parts : Parts = record {
      model = c.new.result;
      clock = None;
      inputs = c.in_ok-names_from.field-0;
      latches = c.in_ok-latches_of.field-0;
      gates = c.in_ok-gates_of.field-0;
      outputs = c.in_ok-signals_from.field-0;
    } in
    parts_spelled h joiner (maybe_texts names) s parts
    record {
      model = c.new.ensures ∙ c.in_ok-from_slice.ensures.items;
      clock = refl;
      inputs = c.in_ok-names_from.ensures ∙ ap (names_from joiner 105 0) (texts-take h.inputs names);
      latch_names = c.in_ok-latches_of.ensures.names ∙ ap (names_from joiner 108 0) lasts;
      latch_drives = c.in_ok-latches_of.ensures.drives
          ∙ ap₂ (λ (vs : List ℕ) (ls : List LatchLine). latch_drives vs (length vs) ls) c.requires.variables c.deref-2.ensures.value;
      gate_names = c.in_ok-gates_of.ensures.names
          ∙ ap (λ (ns : List (Option (List ℕ))). map (λ (a : AndLine). made_name joiner 97 (variable_of a.literal)) s.ands ++ made_names joiner 0 s.latches ++ names_from joiner 111 0 ns) outs;
      gate_drives = c.in_ok-gates_of.ensures.drives ∙ ap (λ (vs : List ℕ). gate_drives vs s) c.requires.variables;
      outputs = c.in_ok-signals_from.ensures ∙ ap₂ range_with_len (first ∙ ap (λ (vs : List ℕ). length vs + length (made_nexts s.latches)) c.requires.variables) many;
    }
    (sized ∙ c.requires.named) c.requires.inputs
