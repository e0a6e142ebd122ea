-- A text with one model and no `.subckt` has the same circuit and the same first fault by either rules.
use Rattle.std.proofs.Common.{◌≡◌, ◌↔◌, ℕ, ◌≤◌, false, List, [], ◌∷◌, Option, None, Some, Result, Ok, Err, MatchResult, IsOkAnd, length, refl, sym, ◌∙◌, ap, subst}
use Rattle.std.specs.List.{AllByRecursion}
use Rattle.std.proofs.lemmas.List.Elements.{recursion_from_All}
use Rattle.tm_circuit.specs.Plain.{Plain}
use Rattle.blif_lex.specs.Words.{Line, IsLawful, words_of}
use Rattle.blif_lex.specs.declared.fault.LexFault.{LexFault}
use Rattle.blif_lex.proofs.Lawful.{lawful_lines}
use Rattle.blif_unit.specs.declared.limits.Limits.{Limits}
use Rattle.blif_unit.specs.Fault.{Faulty, IsLexed}
use Rattle.blif_unit.specs.Unit.{Model}
use Rattle.blif_models.specs.Lines.{model_in}
use Rattle.blif_models.specs.Statement.{blocks_of, fault_in_blocks, fault_of_lines}
use Rattle.blif_models.specs.Several.{fault_of_models, models_in}
use Rattle.blif_models.proofs.OrderlyLemmas.{AreWords, heads_named, settled_all, shaped_all, or_second_none}
use Rattle.blif_flat.specs.Flat.{flat_of}
use Rattle.blif_flat.specs.Hier.{IsFlatOf}
use Rattle.blif_read.specs.Text as one
use Rattle.blif_read.specs.Whole.{fault_in_statements, IsCircuitOfUnit, IsFaultOfUnit}
use Rattle.blif_circuit.specs.Circuit.{IsFaultOfModel}
use Rattle.blif_hier.specs.Single.{HasSingleModel, IsSingle}
use Rattle.blif_hier.specs.Text.{IsCircuitOf, IsCircuitOfLines, IsCircuitOfModels, IsFaultOf, IsFaultOfLines, IsFaultOfHierarchy, in_places, in_flat}
use Rattle.blif_hier.proofs.SameLines.{same_words, lines_are, same_fault_of_lines, same_model}
use Rattle.blif_hier.proofs.AloneFlat.{AreShaped, alone_flat, alone_placed}
use Rattle.blif_hier.proofs.SameStatements.{lawful_statements}
use Rattle.blif_hier.proofs.OneHierarchy.{places_excluded}

-- ---- lines

abbrev AreShort : Limits → List Line → Type 0
AreShort limits lines = AreWords (λ (w : List ℕ). length w ≤ limits.name) lines

-- What lawful lines of one model have: the flat unit is the model, and its statements are not at fault.
record IsPlain (limits : Limits) (lines : List Line) : Type 0 where
  pub placed : IsFlatOf (models_in lines) (flat_of (models_in lines))
  pub flat : flat_of (models_in lines) ≡ model_in lines
  pub statements : fault_in_statements limits.name [] (model_in lines).body ≡ None

plain_lines : (limits : Limits) (lines : List Line) → HasSingleModel lines → AreShort limits lines → fault_of_lines lines ≡ None → IsPlain limits lines
plain_lines limits lines single short lawful =
    let P : List ℕ → Type 0 = λ w. length w ≤ limits.name in
    let none : fault_in_blocks [] (blocks_of lines) ≡ None = or_second_none _ _ lawful in
    let shaped : AreShaped (model_in lines).body = shaped_all (blocks_of lines) (settled_all [] (blocks_of lines) none) in
    let model : models_in lines ≡ model_in lines ∷ [] = same_model lines single in
    record {
      placed = subst (λ (ms : List Model). IsFlatOf ms (flat_of ms)) (sym model) (alone_placed (model_in lines) shaped);
      flat = ap flat_of model ∙ alone_flat (model_in lines) shaped;
      statements = lawful_statements limits.name (blocks_of lines) none (heads_named P lines short);
    }

circuit_by_one : (limits : Limits) (lines : List Line) (c : Plain) → HasSingleModel lines → AreShort limits lines → IsCircuitOfLines limits lines c
    → one.IsCircuitOfLines limits lines c
circuit_by_one limits lines c single short ic =
    let lawful : fault_of_lines lines ≡ None = sym (same_fault_of_lines lines single) ∙ ic.lawful in
    let plain = plain_lines limits lines single short lawful in
    let of_unit : IsCircuitOfUnit limits (model_in lines) c = subst (λ (m : Model). IsCircuitOfUnit limits m c) plain.flat ic.circuit.circuit in
    record { lawful = lawful; circuit = of_unit.circuit }

circuit_by_several : (limits : Limits) (lines : List Line) (c : Plain) → HasSingleModel lines → AreShort limits lines → one.IsCircuitOfLines limits lines c
    → IsCircuitOfLines limits lines c
circuit_by_several limits lines c single short ic =
    let plain = plain_lines limits lines single short ic.lawful in
    let of_unit : IsCircuitOfUnit limits (model_in lines) c = record { lawful = plain.statements; circuit = ic.circuit } in
    let of_models : IsCircuitOfModels limits (models_in lines) c
    = record { placed = plain.placed; circuit = subst (λ (m : Model). IsCircuitOfUnit limits m c) (sym plain.flat) of_unit } in
    record { lawful = same_fault_of_lines lines single ∙ ic.lawful; circuit = of_models }

hierarchy_by_one : (limits : Limits) (lines : List Line) (f : Faulty) → IsPlain limits lines → IsFaultOfHierarchy limits (models_in lines) f
    → IsFaultOfModel limits.signals (model_in lines) f
hierarchy_by_one limits lines f plain (in_places h) = absurd (places_excluded (models_in lines) f plain.placed h)
hierarchy_by_one limits lines f plain (in_flat placed h) =
    let of_unit : IsFaultOfUnit limits (model_in lines) f = subst (λ (m : Model). IsFaultOfUnit limits m f) plain.flat h in
    let none = plain.statements in
    rw none at of_unit

hierarchy_by_several : (limits : Limits) (lines : List Line) (f : Faulty) → IsPlain limits lines → IsFaultOfModel limits.signals (model_in lines) f
    → IsFaultOfHierarchy limits (models_in lines) f
hierarchy_by_several limits lines f plain h =
    let none = plain.statements in
    let of_unit : IsFaultOfUnit limits (model_in lines) f = rw none h in
    in_flat plain.placed (subst (λ (m : Model). IsFaultOfUnit limits m f) (sym plain.flat) of_unit)

fault_lines : (limits : Limits) (lines : List Line) (f : Faulty) → HasSingleModel lines → AreShort limits lines
    → IsFaultOfLines limits lines f ↔ one.IsFaultOfLines limits lines f
fault_lines limits lines f single short = by_fault (fault_of_lines lines) refl
  where
    by_fault : (o : Option Faulty) → fault_of_lines lines ≡ o → IsFaultOfLines limits lines f ↔ one.IsFaultOfLines limits lines f
    by_fault (Some first) is =
        let several : fault_of_models lines ≡ Some first = same_fault_of_lines lines single ∙ is in
        rw (is, several) ((λ h. h), (λ h. h))
    by_fault None is =
        let several : fault_of_models lines ≡ None = same_fault_of_lines lines single ∙ is in
        let plain = plain_lines limits lines single short is in
        rw (is, several) (hierarchy_by_one limits lines f plain, hierarchy_by_several limits lines f plain)

-- ---- texts

abbrev Words : Type 0
Words = Result (List Line) LexFault

lines_short : (most : ℕ) (lines : List Line) → AllByRecursion (IsLawful most false) lines → AreWords (λ (w : List ℕ). length w ≤ most) lines
lines_short most [] lawful = tt
lines_short most (line ∷ lines) lawful =
    (recursion_from_All (λ (w : List ℕ). length w ≤ most) line.words lawful.0.short, lines_short most lines lawful.1)

text_short : (limits : Limits) (text : List ℕ) (lines : List Line) → words_of limits.name false text ≡ Ok lines → AreShort limits lines
text_short limits text lines is =
    lines_short limits.name lines (recursion_from_All (IsLawful limits.name false) lines (lawful_lines limits.name false text lines is))

-- the circuit of a text
pub same_circuits : (limits : Limits) (text : List ℕ) (c : Plain) → IsSingle text → IsCircuitOf limits text c ↔ one.IsCircuitOf limits text c
same_circuits limits text c single =
    subst (λ (r : Words). IsOkAnd r (λ lines. IsCircuitOfLines limits lines c) ↔ one.IsCircuitOf limits text c) (sym (same_words limits.name text single.alone))
    (by_words (words_of limits.name false text) refl)
  where
    by_words : (r : Words) → words_of limits.name false text ≡ r
        → IsOkAnd r (λ lines. IsCircuitOfLines limits lines c) ↔ IsOkAnd r (λ lines. one.IsCircuitOfLines limits lines c)
    by_words (Ok lines) is =
        let of_lines : HasSingleModel lines = subst (λ (ls : List Line). HasSingleModel ls) (sym (lines_are limits.name text lines is)) single in
        let short = text_short limits text lines is in
        (circuit_by_one limits lines c of_lines short, circuit_by_several limits lines c of_lines short)
    by_words (Err e) is = ((λ h. h), (λ h. h))

-- the first fault of a text
pub same_faults : (limits : Limits) (text : List ℕ) (f : Faulty) → IsSingle text → IsFaultOf limits text f ↔ one.IsFaultOf limits text f
same_faults limits text f single =
    subst (λ (r : Words). MatchResult r (λ lines. IsFaultOfLines limits lines f) (λ first. IsLexed first f) ↔ one.IsFaultOf limits text f)
    (sym (same_words limits.name text single.alone)) (by_words (words_of limits.name false text) refl)
  where
    by_words : (r : Words) → words_of limits.name false text ≡ r
        → MatchResult r (λ lines. IsFaultOfLines limits lines f) (λ first. IsLexed first f)
        ↔ MatchResult r (λ lines. one.IsFaultOfLines limits lines f) (λ first. IsLexed first f)
    by_words (Ok lines) is =
        let of_lines : HasSingleModel lines = subst (λ (ls : List Line). HasSingleModel ls) (sym (lines_are limits.name text lines is)) single in
        fault_lines limits lines f of_lines (text_short limits text lines is)
    by_words (Err e) is = ((λ h. h), (λ h. h))
