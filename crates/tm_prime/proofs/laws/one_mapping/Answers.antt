use Rattle.tm_prime.proofs.MappedLemmas.{primed_by_values}
use Rattle.tm_prime.proofs.laws.one_mapping.Goals as goal

pub returns : goal.returns
returns c circuit k k' d d' tables others primed sound few few' lawful lawful' by by' =
    c.one_mapping.ensures circuit k k' d d' tables others primed sound few few' lawful lawful' (primed_by_values circuit tables primed by)
    (primed_by_values circuit others primed by')
