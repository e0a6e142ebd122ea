use Rattle.tm_mapped.proofs.CircleLemmas.{no_circle}
use Rattle.tm_mapped.specs.Mapped.{ByValues}
use Rattle.tm_mapped.proofs.laws.no_circle.Goals as goal

pub returns : goal.returns
returns g c k d tables mapped sound lawful by = no_circle ByValues c k d tables mapped sound lawful by
