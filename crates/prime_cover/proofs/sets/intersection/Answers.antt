use Rattle.prime_cover.proofs.SetLemmas.{bit_of-intersection}
use Rattle.prime_cover.proofs.sets.intersection.Goals as goal

pub returns : goal.returns
returns c = bit_of-intersection c.args.set.now c.args.other.now c.told-set c.told-other
