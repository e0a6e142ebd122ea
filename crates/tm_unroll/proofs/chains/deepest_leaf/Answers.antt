-- one leaf more
use Rattle.std.proofs.Common.{◌≡◌, ◌<◌, max, map, length, arith}
use Rattle.std.proofs.lemmas.Grind.{common_steps}
use Rattle.tm_unroll.specs.Mappings.{table_of}
use Rattle.tm_unroll.proofs.PlaceLemmas.{deepest_more}
use Rattle.tm_unroll.proofs.chains.deepest_leaf.Goals as goal

pub loop-leaf-preserved : goal.loop-leaf-preserved
loop-leaf-preserved c =
    let inside : c.loop-leaf.leaf-index < length c.args.leaves.now = omega arith in
    let greater : c.max-deepest.result ≡ max c.loop-leaf.deepest c.depth_at.result = grind (arith, common_steps) in
    deepest_more (map table_of c.args.luts.now) c.args.depths.now c.args.leaves.now c.loop-leaf.leaf-index c.leaf-item.result c.loop-leaf.deepest c.depth_at.result c.max-deepest.result
    inside c.leaf-item.is c.loop-leaf.invariant c.depth_at.ensures greater
