use Rattle.tm_unroll.proofs.FaultLemmas.{has_one_fault}
use Rattle.tm_unroll.proofs.laws.one_fault.Goals as goal

pub returns : goal.returns
returns c = has_one_fault
