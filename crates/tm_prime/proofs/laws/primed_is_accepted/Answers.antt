use Rattle.tm_prime.proofs.MappedLemmas as lemmas
use Rattle.tm_prime.proofs.laws.primed_is_accepted.Goals as goal

pub returns : goal.returns
returns g = lemmas.primed_is_accepted
