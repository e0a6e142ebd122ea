-- one pin more
use Rattle.std.proofs.Common.{arith}
use Rattle.std.proofs.lemmas.Grind.{common_steps}
use Rattle.tm_circuit.proofs.ListLemmas.{greatest-push}
use Rattle.tm_circuit.proofs.depths.deepest.Goals as goal

pub loop-pin-preserved : goal.loop-pin-preserved
loop-pin-preserved c = grind (arith, common_steps, greatest-push)
