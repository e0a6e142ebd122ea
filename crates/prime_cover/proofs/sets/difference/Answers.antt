use Rattle.std.proofs.Common.{arith}
use Rattle.prime_cover.proofs.SetLemmas.{bit_of-difference}
use Rattle.prime_cover.proofs.sets.difference.Goals as goal

pub returns : goal.returns
returns c =
    bit_of-difference c.args.set.now c.args.other.now c.told-set (omega arith) (omega arith) (omega arith) (omega arith)
