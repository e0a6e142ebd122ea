-- one number more
use Rattle.std.proofs.Common.{arith}
use Rattle.std.proofs.lemmas.Grind.{common_steps}
use Rattle.tm_circuit.proofs.ListLemmas.{greatest-push}
use Rattle.tm_circuit.proofs.extent.greatest_of.Goals as goal

pub loop-number-preserved : goal.loop-number-preserved
loop-number-preserved c = grind (arith, common_steps, greatest-push)
