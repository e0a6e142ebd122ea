-- one driver more
use Rattle.std.proofs.Common.{arith}
use Rattle.std.proofs.lemmas.Grind.{common_steps}
use Rattle.tm_circuit.proofs.ListLemmas.{greatest-push}
use Rattle.tm_circuit.proofs.extent.widest_of.Goals as goal

pub loop-driver-preserved : goal.loop-driver-preserved
loop-driver-preserved c = grind (arith, common_steps, greatest-push)
