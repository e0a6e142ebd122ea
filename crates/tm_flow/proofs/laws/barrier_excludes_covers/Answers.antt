use Rattle.tm_flow.proofs.Menger as menger
use Rattle.tm_flow.proofs.laws.barrier_excludes_covers.Goals as goal

pub returns : goal.returns
returns g c = λ n. menger.barrier_excludes_covers n
