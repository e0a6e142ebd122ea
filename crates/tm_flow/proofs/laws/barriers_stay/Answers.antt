use Rattle.tm_flow.proofs.BarrierLemmas as lemmas
use Rattle.tm_flow.proofs.laws.barriers_stay.Goals as goal

pub returns : goal.returns
returns g c = λ n m less. lemmas.barriers_stay n m less
