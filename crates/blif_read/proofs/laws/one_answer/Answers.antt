use Rattle.blif_read.proofs.OneCircuit.{excluded}
use Rattle.blif_read.proofs.SomeCircuit.{decided, same_circuit, same_fault}
use Rattle.blif_read.proofs.laws.one_answer.Goals as goal

pub returns : goal.returns
returns c = record {
  one_circuit = same_circuit;
  one_fault = same_fault;
  not_both = λ limits text c f h. excluded limits text f c h;
  one_of_both = decided;
}
