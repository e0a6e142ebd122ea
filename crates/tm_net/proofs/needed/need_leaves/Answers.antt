-- one leaf more
use Rattle.std.proofs.Common.{◌≡◌, ◌+◌, ◌<◌, [], ◌∷◌, ◌++◌, List, length, take, sym, subst, ap, ◌∙◌, arith}
use Rattle.std.proofs.lemmas.List.{take_more}
use Rattle.tm_unroll.specs.declared.node.Node.{Node}
use Rattle.tm_net.specs.Registers.{Lowers}
use Rattle.tm_net.proofs.NeedLemmas.{lowers_join}
use Rattle.tm_net.proofs.needed.need_leaves.Goals as goal

pub loop-leaf-preserved : goal.loop-leaf-preserved
loop-leaf-preserved c =
    let i = c.loop-leaf.leaf-index in
    let inside : i < length c.args.leaves.now = omega arith in
    let more : take (i + 1) c.args.leaves.now ≡ take i c.args.leaves.now ++ c.leaf-item.result ∷ [] =
    take_more c.args.leaves.now i c.leaf-item.result inside ∙ ap (λ (x : Node). take i c.args.leaves.now ++ x ∷ []) (sym c.leaf-item.is) in
    record {
      lows = c.need.ensures.lows;
      lowers = subst (λ (xs : List Node). Lowers c.args.circuit.now xs c.args.lows.now c.need.new.lows) (sym more)
          (lowers_join c.args.circuit.now (take i c.args.leaves.now) (c.leaf-item.result ∷ []) c.args.lows.now c.loop-leaf.lows c.need.new.lows
          c.loop-leaf.invariant.lowers c.need.ensures.lowers);
    }
