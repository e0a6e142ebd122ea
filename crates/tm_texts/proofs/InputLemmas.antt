-- A text has one circuit, and none where it has a fault, whichever kind of text it is.
use Rattle.std.proofs.Common.{◌≡◌, ℕ, List}
use Rattle.tm_circuit.specs.Plain.{Plain}
use Rattle.blif_read.specs.declared.Limits.{Limits}
use Rattle.blif_hier.specs.Text as blif
use Rattle.blif_hier.proofs.OneHierarchy.{excluded, same_circuit}
use Rattle.aiger_read.specs.Text as aiger
use Rattle.aiger_read.proofs.AnswerLemmas.{one_circuit, not_both}
use Rattle.text_read.specs.Texts.{Faulty, is_aiger, IsCircuitOf, IsFaultOf, OfAiger, OfBlif}
use Rattle.text_read.proofs.KindLemmas.{in_both, no_blif_fault, no_aiger_fault}

pub same_input : (limits : Limits) (text : List ℕ) (c d : Plain) → IsCircuitOf limits text c → IsCircuitOf limits text d → c ≡ d
same_input limits text c d =
    in_both (is_aiger text) (aiger.IsCircuitOf limits text c) (blif.IsCircuitOf limits text c) (aiger.IsCircuitOf limits text d) (blif.IsCircuitOf limits text d) (c ≡ d)
    (one_circuit limits text c d) (same_circuit limits text c d)

-- a text with a fault has no circuit
pub faulty_input : (limits : Limits) (text : List ℕ) (c : Plain) (f : Faulty) → IsFaultOf limits text f → IsCircuitOf limits text c → ⊥
faulty_input limits text c f =
    in_both (is_aiger text) (OfAiger f.1 (λ kind. aiger.IsFaultOf limits text (f.0, kind))) (OfBlif f.1 (λ kind. blif.IsFaultOf limits text (f.0, kind)))
    (aiger.IsCircuitOf limits text c) (blif.IsCircuitOf limits text c) ⊥
    (λ is of. no_aiger_fault (aiger.IsFaultOf limits text) (λ g first. not_both limits text c g first of) f is)
    (λ is of. no_blif_fault (blif.IsFaultOf limits text) (λ g first. excluded limits text g c first of) f is)
