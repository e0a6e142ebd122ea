use Rattle.blif_read.proofs.OneModels.{same_models, same_fault_of_models, models_excluded, models_decided}
use Rattle.blif_read.proofs.laws.one_list_of_models.Goals as goal

pub returns : goal.returns
returns c = record {
  one_list = same_models;
  one_fault = same_fault_of_models;
  not_both = models_excluded;
  one_of_both = models_decided;
}
