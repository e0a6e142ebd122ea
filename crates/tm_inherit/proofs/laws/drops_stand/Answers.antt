use Rattle.tm_inherit.proofs.StandLemmas.{stands_all}
use Rattle.tm_inherit.proofs.laws.drops_stand.Goals as goal

pub returns : goal.returns
returns c = stands_all
