use Rattle.tm_cover.proofs.TableLemmas.{chosen_lawful}
use Rattle.tm_cover.proofs.laws.chosen_is_lawful.Goals as goal

pub returns : goal.returns
returns c = λ base need circuit k d s tables sound settled kept chosen. chosen_lawful base need circuit k d s sound settled kept tables chosen
