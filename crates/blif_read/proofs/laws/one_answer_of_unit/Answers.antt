use Rattle.blif_read.proofs.OneUnit.{unit_circuit, unit_fault, unit_excluded, unit_decided}
use Rattle.blif_read.proofs.laws.one_answer_of_unit.Goals as goal

pub returns : goal.returns
returns c = record {
  one_circuit = unit_circuit;
  one_fault = unit_fault;
  not_both = unit_excluded;
  one_of_both = unit_decided;
}
