use Rattle.aiger_read.proofs.AnswerLemmas as answers
use Rattle.aiger_read.proofs.laws.one_answer.Goals as goal

pub returns : goal.returns
returns c = record { one_circuit = answers.one_circuit; one_fault = answers.one_fault; not_both = answers.not_both }
