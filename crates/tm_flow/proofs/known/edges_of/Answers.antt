use Rattle.std.proofs.Common.{◌+◌, subst, sym, refl, drop, get_or, arith}
use Rattle.tm_flow.specs.Nets.{IsIndexWalk}
use Rattle.tm_flow.proofs.WalkLemmas.{walk_next, edges_next}
use Rattle.tm_flow.proofs.known.edges_of.Goals as goal

pub read-to-requires : goal.read-to-requires
read-to-requires g c =
    (walk_next (g.N.LazyNet.shape c.args.net.now) c.loop-index.node c.args.indices.now c.loop-index.index-index (get_or c.args.indices.now c.loop-index.index-index 0)
    (omega arith) refl c.loop-index.invariant.rest).0

pub loop-index-preserved : goal.loop-index-preserved
loop-index-preserved g c =
    let n = g.N.LazyNet.shape c.args.net.now in
    let next = walk_next n c.loop-index.node c.args.indices.now c.loop-index.index-index (get_or c.args.indices.now c.loop-index.index-index 0) (omega arith) refl c.loop-index.invariant.rest in
    record {
      rest = subst (λ x. IsIndexWalk n x (drop (c.loop-index.index-index + 1) c.args.indices.now)) (sym c.read-to.ensures) next.1;
      made = edges_next n c.loop-index.node c.read-to.result c.args.indices.now c.loop-index.index-index (get_or c.args.indices.now c.loop-index.index-index 0)
          c.loop-index.edges.items c.push.new.self.items _ (omega arith) refl c.read-to.ensures c.loop-index.invariant.made c.in_ok-push.ensures.items;
    }
