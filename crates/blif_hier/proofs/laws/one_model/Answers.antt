use Rattle.blif_hier.proofs.OneModel.{same_circuits, same_faults}
use Rattle.blif_hier.proofs.laws.one_model.Goals as goal

pub returns : goal.returns
returns c = record { circuit = same_circuits; fault = same_faults }
