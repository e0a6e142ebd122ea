-- For all rows models have a nested trace, and in each the top's outputs are those of the circuit's trace.
use Rattle.std.proofs.Common.{◌≡◌, ℕ, true, List, [], ◌∷◌, Result, Ok, Err, IsOkAnd, refl, sym, subst}
use Rattle.tm_circuit.specs.Plain.{Plain}
use Rattle.tm_circuit.specs.Sound.{IsSound}
use Rattle.tm_circuit.specs.Trace.{HasOneTrace}
use Rattle.blif_lex.specs.Words.{Line, words_of}
use Rattle.blif_lex.specs.declared.fault.LexFault.{LexFault}
use Rattle.blif_unit.specs.declared.limits.Limits.{Limits}
use Rattle.blif_unit.specs.Fit.{AreFit}
use Rattle.blif_unit.specs.Unit.{Model, AreDistinct}
use Rattle.blif_models.specs.Several.{models_in, AreModelsOf}
use Rattle.blif_models.proofs.FitLemmas.{models_fit}
use Rattle.blif_circuit.proofs.SignalNames.{names_distinct}
use Rattle.blif_read.specs.Whole.{IsCircuitOfUnit}
use Rattle.blif_read.proofs.WholeLemmas.{whole_driven_once}
use Rattle.blif_flat.specs.Flat.{flat_of}
use Rattle.blif_flat.specs.Hier.{IsFlatOf}
use Rattle.blif_hier.specs.Nested.{ShowsNested, MeansText}
use Rattle.blif_hier.specs.Text.{IsCircuitOf, IsCircuitOfLines}
use Rattle.blif_hier.proofs.SameOutputs.{same_outputs}
use Rattle.blif_hier.proofs.SomeNested.{some_nested}

shows_nested : (limits : Limits) (models : List Model) (flat : Model) (c : Plain) → AreFit limits.name models → IsFlatOf models flat → IsCircuitOfUnit limits flat c
    → IsSound c → HasOneTrace c → ShowsNested models c
shows_nested limits [] flat c fit is ic sound one = absurd fit.top
shows_nested limits (top ∷ others) flat c fit is of_flat sound one =
    let ic : IsCircuitOfUnit limits (flat_of (top ∷ others)) c = subst (λ (m : Model). IsCircuitOfUnit limits m c) is.made of_flat in
    let spelled = ic.circuit.spelled in
    let distinct : AreDistinct c.names =
    subst AreDistinct (sym spelled.names) (names_distinct (flat_of (top ∷ others)).body (whole_driven_once limits.name (flat_of (top ∷ others)).body ic.lawful)) in
    record {
      some = λ rows. some_nested top others c spelled distinct is.placed is.shallow rows (one.some rows).0 (one.some rows).1;
      same = λ rows bits t nested trace. same_outputs top others c spelled sound.ranked is.shallow is.small rows bits nested t trace;
    }

-- The circuit of a text, which is sound and so has one trace, shows what the text means.
pub meant : (limits : Limits) (text : List ℕ) (c : Plain) → IsCircuitOf limits text c → IsSound c → HasOneTrace c → MeansText limits text c
meant limits text c of_text sound one = by_words (words_of limits.name true text) refl of_text
  where
    by_words : (r : Result (List Line) LexFault) → words_of limits.name true text ≡ r → IsOkAnd r (λ lines. IsCircuitOfLines limits lines c)
        → IsOkAnd r (λ lines. ShowsNested (models_in lines) c)
    by_words (Ok lines) is ic =
        let are : AreModelsOf limits text (models_in lines) = rw is (record { lawful = ic.lawful; all = refl }) in
        shows_nested limits (models_in lines) (flat_of (models_in lines)) c (models_fit limits text (models_in lines) are) ic.circuit.placed ic.circuit.circuit sound one
    by_words (Err e) is ic = absurd ic
