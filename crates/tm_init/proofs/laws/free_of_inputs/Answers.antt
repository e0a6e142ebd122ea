use Rattle.tm_init.proofs.FreeLemmas.{one_bit}
use Rattle.tm_init.proofs.laws.free_of_inputs.Goals as goal

pub returns : goal.returns
returns c = one_bit
