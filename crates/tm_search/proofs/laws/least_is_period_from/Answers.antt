use Rattle.tm_search.proofs.LeastLemmas.{chosen_period, least_period}
use Rattle.tm_search.proofs.laws.least_is_period_from.Goals as goal

pub returns-clause-period : goal.returns-clause-period
returns-clause-period c = λ base circuit k d least tables sound is chosen. chosen_period base circuit k d sound least is tables chosen

pub returns-clause-least : goal.returns-clause-least
returns-clause-least c = λ base circuit k d least sound is. least_period base circuit k d sound least is
