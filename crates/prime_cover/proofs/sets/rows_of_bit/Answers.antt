use Rattle.prime_cover.proofs.SetLemmas.{bit_of-rows_of_bits}
use Rattle.prime_cover.proofs.sets.rows_of_bit.Goals as goal

pub returns : goal.returns
returns c = bit_of-rows_of_bits c.args.bit c.requires
