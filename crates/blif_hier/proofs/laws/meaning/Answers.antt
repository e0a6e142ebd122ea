use Rattle.blif_hier.proofs.Nesting.{meant}
use Rattle.blif_hier.proofs.laws.meaning.Goals as goal

pub returns : goal.returns
returns c = λ limits text circuit is sound. meant limits text circuit is sound (c.one_trace.ensures circuit sound)
