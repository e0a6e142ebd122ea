use Rattle.tm_absorb.proofs.TrailLemmas.{lawful_after, within_after}
use Rattle.tm_absorb.proofs.laws.absorbed_is_lawful.Goals as goal

pub returns-clause-lawful : goal.returns-clause-lawful
returns-clause-lawful c = λ circuit k d old new sound lawful is. lawful_after circuit k d is.times old new sound lawful is.absorbs

pub returns-clause-within : goal.returns-clause-within
returns-clause-within c = λ circuit k d most old new sound lawful is. within_after circuit k is.times most old new is.absorbs
