use Rattle.tm_prime.proofs.MappedLemmas as lemmas
use Rattle.tm_prime.proofs.laws.primed_is_mapped.Goals as goal

pub returns-clause-rows : goal.returns-clause-rows
returns-clause-rows c = lemmas.primed_is_mapped

pub returns-clause-values : goal.returns-clause-values
returns-clause-values c = lemmas.primed_by_values
