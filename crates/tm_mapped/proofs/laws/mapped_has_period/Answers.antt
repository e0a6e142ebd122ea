use Rattle.tm_mapped.proofs.PeriodLemmas.{period_there, period_here}
use Rattle.tm_mapped.specs.Mapped.{ByValues}
use Rattle.tm_mapped.proofs.laws.mapped_has_period.Goals as goal

pub returns : goal.returns
returns g c tables mapped p by = (period_there ByValues c tables mapped by p, period_here ByValues c tables mapped by p)
