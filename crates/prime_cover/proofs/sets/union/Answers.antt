use Rattle.prime_cover.proofs.SetLemmas.{bit_of-union}
use Rattle.prime_cover.proofs.sets.union.Goals as goal

pub returns : goal.returns
returns c = bit_of-union c.args.set.now c.args.other.now c.told-set c.told-other
