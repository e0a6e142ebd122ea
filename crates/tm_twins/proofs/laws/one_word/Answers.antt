use Rattle.tm_twins.proofs.Words.{one_word, source_of_word, word_from_source}
use Rattle.tm_twins.proofs.laws.one_word.Goals as goal

pub returns-clause-one : goal.returns-clause-one
returns-clause-one c = one_word

pub returns-clause-ends : goal.returns-clause-ends
returns-clause-ends c drives s e word h = source_of_word drives s e word h

pub returns-clause-some : goal.returns-clause-some
returns-clause-some c = word_from_source
