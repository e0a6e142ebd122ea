use Rattle.tm_twins.proofs.Words.{one_twin, equal_twin, own_twin, twin_settled}
use Rattle.tm_twins.proofs.SomeTwin.{some_twin}
use Rattle.tm_twins.proofs.laws.one_twin.Goals as goal

pub returns-clause-one : goal.returns-clause-one
returns-clause-one c = one_twin

pub returns-clause-equal : goal.returns-clause-equal
returns-clause-equal c = equal_twin

pub returns-clause-own : goal.returns-clause-own
returns-clause-own c = own_twin

pub returns-clause-settled : goal.returns-clause-settled
returns-clause-settled c = twin_settled

pub returns-clause-some : goal.returns-clause-some
returns-clause-some c = some_twin
