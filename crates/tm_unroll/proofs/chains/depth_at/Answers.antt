-- no table has the node as its root
use Rattle.std.proofs.Common.{map}
use Rattle.tm_unroll.specs.Mappings.{table_of}
use Rattle.tm_unroll.proofs.PlaceLemmas.{no_root_deepest}
use Rattle.tm_unroll.proofs.chains.depth_at.Goals as goal

pub returns-in-None : goal.returns-in-None
returns-in-None c = no_root_deepest (map table_of c.args.luts.now) c.args.depths.now c.args.node.now c.in-None.ensures
