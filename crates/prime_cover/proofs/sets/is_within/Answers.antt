use Rattle.prime_cover.proofs.SetLemmas.{within_by_test}
use Rattle.prime_cover.proofs.sets.is_within.Goals as goal

pub returns : goal.returns
returns c = within_by_test c.is_empty.result c.difference.result c.args.set.now c.args.other.now c.is_empty.ensures c.difference.ensures
