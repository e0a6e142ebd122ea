use Rattle.tm_mapped.proofs.OneLemmas.{same_tables}
use Rattle.tm_mapped.specs.Mapped.{ByValues}
use Rattle.tm_mapped.proofs.laws.one_mapping.Goals as goal

pub returns : goal.returns
returns g c k k' d d' tables others mapped sound few few' lawful lawful' by by' = same_tables ByValues ByValues c k d k' d' tables others mapped sound lawful lawful' few few' by by'
