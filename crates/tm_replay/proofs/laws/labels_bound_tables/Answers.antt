use Rattle.tm_replay.proofs.RefutationLemmas.{labels_bound}
use Rattle.tm_replay.proofs.laws.labels_bound_tables.Goals as goal

pub returns : goal.returns
returns c = labels_bound
