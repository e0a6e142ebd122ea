use Rattle.tm_mapped.proofs.CountLemmas.{inputs_counted, latches_counted, gates_counted}
use Rattle.tm_mapped.specs.Mapped.{ByValues}
use Rattle.tm_mapped.proofs.laws.mapped_counts.Goals as goal

pub returns-clause-inputs : goal.returns-clause-inputs
returns-clause-inputs g c tables mapped by = inputs_counted ByValues c tables mapped by

pub returns-clause-latches : goal.returns-clause-latches
returns-clause-latches g c tables mapped by = latches_counted ByValues c tables mapped by

pub returns-clause-gates : goal.returns-clause-gates
returns-clause-gates g c tables mapped by = gates_counted ByValues c tables mapped by
