-- A text has exactly one list of models or exactly one first fault in them, and never both.
use Rattle.std.proofs.Common.{◌≡◌, ◌≢◌, ℕ, ◌⊎◌, inl, inr, true, List, Option, None, Some, refl, sym, ◌∙◌}
use Rattle.std.specs.Prelude.{Result, Ok, Err, IsOkAnd, MatchResult}
use Rattle.blif_lex.specs.Words.{Line, words_of}
use Rattle.blif_lex.specs.declared.fault.LexFault.{LexFault}
use Rattle.blif_lex.specs.declared.fault.LexFault.TheVariants as lex
use Rattle.blif_unit.specs.declared.limits.Limits.{Limits}
use Rattle.blif_unit.specs.Fault.{Faulty, IsLexed, kind_of}
use Rattle.blif_unit.specs.Unit.{Model}
use Rattle.blif_models.specs.Several.{fault_of_models, models_in, AreModelsOf, AreModelsOfLines, IsFaultOfModels}
use Rattle.blif_read.proofs.SomeCircuit.{lexed_fault, words_named}

-- the words of a text with bindings, or their first fault
abbrev Words : Type 0
Words = Result (List Line) LexFault

same_by : (r : Words) (ms ns : List Model) → IsOkAnd r (λ lines. AreModelsOfLines lines ms) → IsOkAnd r (λ lines. AreModelsOfLines lines ns) → ms ≡ ns
same_by (Ok lines) ms ns p q = p.all ∙ sym q.all
same_by (Err e) ms ns p q = absurd p

-- A text has at most one list of models.
pub same_models : (limits : Limits) (text : List ℕ) (ms ns : List Model) → AreModelsOf limits text ms → AreModelsOf limits text ns → ms ≡ ns
same_models limits text ms ns p q = same_by (words_of limits.name true text) ms ns p q

fault_by : (r : Words) (f g : Faulty) → MatchResult r (λ lines. fault_of_models lines ≡ Some f) (λ first. IsLexed first f)
    → MatchResult r (λ lines. fault_of_models lines ≡ Some g) (λ first. IsLexed first g) → f ≡ g
fault_by (Ok lines) f g p q = let both : Some f ≡ Some g = sym p ∙ q in cc
fault_by (Err e) f g p q = lexed_fault e f g p q

-- A text has at most one first fault in its models.
pub same_fault_of_models : (limits : Limits) (text : List ℕ) (f g : Faulty) → IsFaultOfModels limits text f → IsFaultOfModels limits text g → f ≡ g
same_fault_of_models limits text f g p q = fault_by (words_of limits.name true text) f g p q

excluded_by : (r : Words) (f : Faulty) (ms : List Model) → MatchResult r (λ lines. fault_of_models lines ≡ Some f) (λ first. IsLexed first f)
    → IsOkAnd r (λ lines. AreModelsOfLines lines ms) → ⊥
excluded_by (Ok lines) f ms p q = let no : None ≡ Some f = sym q.lawful ∙ p in cc
excluded_by (Err e) f ms p q = q

-- A text with a fault in its models has none.
pub models_excluded : (limits : Limits) (text : List ℕ) (f : Faulty) (ms : List Model) → IsFaultOfModels limits text f → ¬ AreModelsOf limits text ms
models_excluded limits text f ms p q = excluded_by (words_of limits.name true text) f ms p q

decided_by : (r : Words) → ((e : LexFault) → r ≡ Err e → e ≢ lex.NoMemory)
    → ((ms : List Model) × IsOkAnd r (λ lines. AreModelsOfLines lines ms))
    ⊎ ((f : Faulty) × MatchResult r (λ lines. fault_of_models lines ≡ Some f) (λ first. IsLexed first f))
decided_by (Ok lines) named = by_lines (fault_of_models lines) refl
  where
    by_lines : (o : Option Faulty) → fault_of_models lines ≡ o
        → ((ms : List Model) × AreModelsOfLines lines ms) ⊎ ((f : Faulty) × (fault_of_models lines ≡ Some f))
    by_lines None is = inl (models_in lines, record { lawful = is; all = refl })
    by_lines (Some f) is = inr (f, is)
decided_by (Err (lex.Text line kind)) named = inr ((line, kind_of kind), refl)
decided_by (Err lex.NoMemory) named = absurd (named lex.NoMemory refl refl)

-- A text has models or a first fault in them.
pub models_decided : (limits : Limits) (text : List ℕ)
    → ((ms : List Model) × AreModelsOf limits text ms) ⊎ ((f : Faulty) × IsFaultOfModels limits text f)
models_decided limits text = decided_by (words_of limits.name true text) (words_named limits.name true text)
