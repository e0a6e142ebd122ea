use Rattle.tm_mapped.proofs.StandLemmas.{distinct_nodes}
use Rattle.tm_mapped.proofs.laws.nodes_are_distinct.Goals as goal

pub returns : goal.returns
returns c circuit k d tables registers sound lawful are = distinct_nodes circuit k d tables sound lawful registers are
