use Rattle.std.proofs.Common.{◌≡◌}
use Rattle.blif_hier.specs.Text as blif
use Rattle.aiger_read.specs.Text as aiger
use Rattle.text_read.specs.Texts.{is_aiger, IsBlifFault, IsAigerFault}
use Rattle.text_read.proofs.KindLemmas.{in_both, one_blif_fault, one_aiger_fault, no_blif_fault, no_aiger_fault}
use Rattle.text_read.proofs.laws.one_answer.Goals as goal

pub returns-clause-one_circuit : goal.returns-clause-one_circuit
returns-clause-one_circuit c limits text a b =
    in_both (is_aiger text) (aiger.IsCircuitOf limits text a) (blif.IsCircuitOf limits text a) (aiger.IsCircuitOf limits text b) (blif.IsCircuitOf limits text b) (a ≡ b)
    (c.one_answer.ensures.one_circuit limits text a b) (c.one_answer-2.ensures.one_circuit limits text a b)

pub returns-clause-one_fault : goal.returns-clause-one_fault
returns-clause-one_fault c limits text f g =
    in_both (is_aiger text) (IsAigerFault limits text f) (IsBlifFault limits text f)
    (IsAigerFault limits text g) (IsBlifFault limits text g) (f ≡ g)
    (one_aiger_fault (aiger.IsFaultOf limits text) (c.one_answer.ensures.one_fault limits text) f g)
    (one_blif_fault (blif.IsFaultOf limits text) (c.one_answer-2.ensures.one_fault limits text) f g)

pub returns-clause-not_both : goal.returns-clause-not_both
returns-clause-not_both c limits text circuit f =
    in_both (is_aiger text) (IsAigerFault limits text f) (IsBlifFault limits text f)
    (aiger.IsCircuitOf limits text circuit) (blif.IsCircuitOf limits text circuit) ⊥
    (λ is of. no_aiger_fault (aiger.IsFaultOf limits text) (λ g first. c.one_answer.ensures.not_both limits text circuit g first of) f is)
    (λ is of. no_blif_fault (blif.IsFaultOf limits text) (λ g first. c.one_answer-2.ensures.not_both limits text circuit g first of) f is)
