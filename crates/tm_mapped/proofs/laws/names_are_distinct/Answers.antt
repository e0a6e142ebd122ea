use Rattle.tm_mapped.proofs.DistinctLemmas.{distinctly_named}
use Rattle.tm_mapped.specs.Mapped.{ByValues}
use Rattle.tm_mapped.proofs.laws.names_are_distinct.Goals as goal

pub returns : goal.returns
returns g c k d tables mapped sound lawful few by = distinctly_named ByValues c k d tables mapped sound lawful few by
