use Rattle.tm_flow.proofs.BarrierLemmas.{inherits, ends_bar}
use Rattle.tm_flow.proofs.laws.barriers_are_inherited.Goals as goal

pub returns-clause-walks : goal.returns-clause-walks
returns-clause-walks g c = λ n. inherits n

pub returns-clause-ends : goal.returns-clause-ends
returns-clause-ends g c = λ n. ends_bar n
