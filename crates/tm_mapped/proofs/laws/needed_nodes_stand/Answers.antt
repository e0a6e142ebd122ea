use Rattle.tm_mapped.proofs.StandLemmas.{has_place, needed_stands}
use Rattle.tm_mapped.proofs.laws.needed_nodes_stand.Goals as goal

pub returns-clause-place : goal.returns-clause-place
returns-clause-place c circuit k d tables x sound lawful needed = has_place circuit k d tables sound lawful x needed

pub returns-clause-stand : goal.returns-clause-stand
returns-clause-stand c circuit k d tables registers x sound lawful are needed =
    needed_stands circuit k d tables sound lawful registers are x needed
