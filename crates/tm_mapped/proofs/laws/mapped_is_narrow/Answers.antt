use Rattle.tm_mapped.proofs.CountLemmas.{widest_low}
use Rattle.tm_mapped.specs.Mapped.{ByValues}
use Rattle.tm_mapped.proofs.laws.mapped_is_narrow.Goals as goal

pub returns : goal.returns
returns g c k d tables mapped lawful by = widest_low ByValues c tables mapped by k d lawful
