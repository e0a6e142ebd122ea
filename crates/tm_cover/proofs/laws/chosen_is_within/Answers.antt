use Rattle.tm_cover.proofs.TableLemmas.{chosen_within}
use Rattle.tm_cover.proofs.laws.chosen_is_within.Goals as goal

pub returns : goal.returns
returns c = λ base need circuit k d s tables sound settled kept chosen. chosen_within base need circuit k d s sound settled kept tables chosen
