-- The parts that were made spell the circuit.
use Rattle.std.proofs.Common.{◌≡◌, ℕ, suc, ◌+◌, List, [], ◌∷◌, ◌++◌, map, length, take, drop, Option, None, Bor, refl, sym, ◌∙◌, ap, ap₂, arith}
use Rattle.std.specs.Prelude.{codes}
use Rattle.std.specs.List.{range_with_len}
use Rattle.std.proofs.lemmas.List.{length-take-le, drop-map, take-map}
use Rattle.tm_circuit.specs.declared.parts.Clock.{Clock}
use Rattle.tm_circuit.specs.declared.parts.Parts.{Parts}
use Rattle.tm_circuit.specs.Plain.{Plain, Drive, input}
use Rattle.tm_circuit.specs.Build as build
use Rattle.tm_parts.specs.Parts.{part_names, part_drives}
use Rattle.aiger_read.specs.declared.header.Header.{Header}
use Rattle.aiger_read.specs.Statements.{variable_of}
use Rattle.aiger_read.specs.Symbols.{slot_count}
use Rattle.aiger_read.specs.Names.{made_name, names_from}
use Rattle.aiger_read.specs.Circuit.{Sections, variables_of, latch_drives, made_names, made_nexts, gate_drives, circuit_with}
use Rattle.aiger_read.specs.Steps.{maybe_texts}
use Rattle.aiger_read.specs.Making.{latch_names_of, latch_drives_of}
use Rattle.aiger_read.proofs.StepLemmas.{text_of}

same_inputs : (names : List (List ℕ)) (xs : List ℕ) → length names ≡ length xs → map (λ _. input) names ≡ map (λ _. input) xs
same_inputs [] [] same = refl
same_inputs [] (x ∷ xs) same = absurd (omega (arith, same))
same_inputs (n ∷ names) [] same = absurd (omega (arith, same))
same_inputs (n ∷ names) (x ∷ xs) same = ap (λ ds. input ∷ ds) (same_inputs names xs (omega (arith, same)))

from-length : (joiner : List ℕ) (letter place : ℕ) (names : List (Option (List ℕ))) → length (names_from joiner letter place names) ≡ length names
from-length joiner letter place [] = refl
from-length joiner letter place (name ∷ names) = ap suc (from-length joiner letter (suc place) names)

-- What the parts have to have.
pub record HasParts (h : Header) (joiner : List ℕ) (names : List (Option (List ℕ))) (s : Sections) (p : Parts) : Type 0 where
  pub model : p.model ≡ codes "aiger"
  pub clock : p.clock ≡ None
  pub inputs : p.inputs.items ≡ names_from joiner 105 0 (take h.inputs names)
  pub latch_names : latch_names_of p.latches.items ≡ names_from joiner 108 0 (drop (h.inputs + h.outputs) names)
  pub latch_drives : latch_drives_of p.latches.items ≡ latch_drives (variables_of s) (length (variables_of s)) s.latches
  pub gate_names : part_names p.gates.items
      ≡ map (λ a. made_name joiner 97 (variable_of a.literal)) s.ands ++ made_names joiner 0 s.latches ++ names_from joiner 111 0 (take h.outputs (drop h.inputs names))
  pub gate_drives : part_drives p.gates.items ≡ gate_drives (variables_of s) s
  pub outputs : p.outputs.items ≡ range_with_len (length (variables_of s) + length (made_nexts s.latches)) (length s.outputs)

pub parts_spelled : (h : Header) (joiner : List ℕ) (names : List (Option (List ℕ))) (s : Sections) (p : Parts) → HasParts h joiner names s p
    → length names ≡ slot_count h → length s.inputs ≡ h.inputs → build.circuit_of p ≡ circuit_with h joiner names s
parts_spelled h joiner names s p has sized counted =
    let size = length-take-le h.inputs names (omega (arith, sized)) in
    let made = from-length joiner 105 0 (take h.inputs names) in
    let few : length p.inputs.items ≡ length s.inputs = let e = ap length has.inputs in omega (arith, e, size, made, counted) in
    let c : Plain = build.circuit_of p in
    let d : Plain = circuit_with h joiner names s in
    let names_same : c.names ≡ d.names =
    ap₂ (λ (x y : List (List ℕ)). x ++ y) (ap₂ (λ (x y : List (List ℕ)). x ++ y) has.inputs has.latch_names) has.gate_names in
    let drives_same : c.drives ≡ d.drives =
    ap₂ (λ (x y : List Drive). x ++ y) (ap₂ (λ (x y : List Drive). x ++ y) (same_inputs p.inputs.items s.inputs few) has.latch_drives) has.gate_drives in
    let with_model : List ℕ → Plain = λ x. record { model = x; clock = c.clock; names = c.names; drives = c.drives; outputs = c.outputs } in
    let with_clock : Option Clock → Plain = λ x. record { model = d.model; clock = x; names = c.names; drives = c.drives; outputs = c.outputs } in
    let with_names : List (List ℕ) → Plain = λ x. record { model = d.model; clock = d.clock; names = x; drives = c.drives; outputs = c.outputs } in
    let with_drives : List Drive → Plain = λ x. record { model = d.model; clock = d.clock; names = d.names; drives = x; outputs = c.outputs } in
    let with_outputs : List ℕ → Plain = λ x. record { model = d.model; clock = d.clock; names = d.names; drives = d.drives; outputs = x } in
    ap with_model has.model ∙ ap with_clock has.clock ∙ ap with_names names_same ∙ ap with_drives drives_same ∙ ap with_outputs has.outputs

-- ---- parts of the names

pub texts-take : (n : ℕ) (names : List (Option (Bor (List ℕ)))) → maybe_texts (take n names) ≡ take n (maybe_texts names)
texts-take n names = sym (take-map text_of n names)

pub texts-drop : (n : ℕ) (names : List (Option (Bor (List ℕ)))) → maybe_texts (drop n names) ≡ drop n (maybe_texts names)
texts-drop n names = sym (drop-map text_of n names)
