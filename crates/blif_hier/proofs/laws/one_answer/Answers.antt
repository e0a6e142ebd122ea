use Rattle.blif_hier.proofs.OneHierarchy.{same_circuit, same_fault, excluded, decided}
use Rattle.blif_hier.proofs.laws.one_answer.Goals as goal

pub returns : goal.returns
returns c = record {
  one_circuit = same_circuit;
  one_fault = same_fault;
  not_both = λ limits text c f h. excluded limits text f c h;
  one_of_both = decided;
}
