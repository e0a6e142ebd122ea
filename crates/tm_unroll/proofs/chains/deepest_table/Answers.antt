-- one table more
use Rattle.std.proofs.Common.{arith}
use Rattle.std.proofs.lemmas.Grind.{common_steps}
use Rattle.tm_circuit.proofs.ListLemmas.{greatest-push}
use Rattle.tm_unroll.proofs.chains.deepest_table.Goals as goal

pub loop-lut-preserved : goal.loop-lut-preserved
loop-lut-preserved c = grind (arith, common_steps, greatest-push)
