use Rattle.tm_prime.proofs.MappedLemmas.{primed_by_values, agreed_is_primed}
use Rattle.tm_prime.proofs.laws.mapped_is_primed.Goals as goal

pub returns : goal.returns
returns c circuit k d tables mapped primed sound lawful by by' =
    let agree = (c.mapped_circuits_agree.ensures circuit k d tables mapped primed sound lawful by).0 (primed_by_values circuit tables primed by') in
    agreed_is_primed circuit tables mapped primed agree by'
