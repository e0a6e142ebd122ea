-- The places of others stay.
use Rattle.tm_labels.proofs.order.Order.fall.Goals as goal

pub returns-clause-others : goal.returns-clause-others
returns-clause-others c = λ g differs there. c.add.ensures.adds.stays g (c.take_first.ensures.others g differs there)
