use Rattle.std.proofs.Common.{map, subst, sym, arith}
use Rattle.std.proofs.lemmas.List.{take_all}
use Rattle.tm_flow.specs.Lists.{Has}
use Rattle.tm_flow.specs.Searches.{Uses}
use Rattle.tm_flow.proofs.UseLemmas.{uses_none, uses_more}
use Rattle.tm_flow.proofs.used.use_walk.Goals as goal

pub use_node-requires : goal.use_node-requires
use_node-requires g c = c.loop-edge.invariant.numbered

pub loop-edge-init : goal.loop-edge-init
loop-edge-init g c = uses_none c.args.met.now.nodes.keys c.args.met.now.marks.items (λ u h. h) c.requires

pub loop-edge-preserved : goal.loop-edge-preserved
loop-edge-preserved g c =
    uses_more (λ e. e.to) c.args.walk.now c.loop-edge.edge-index c.edge-item.result (omega arith) c.edge-item.is (λ u e. sym e) (λ u e. sym e) c.loop-edge.invariant c.in_ok-use_node.ensures

pub returns : goal.returns
returns g c =
    subst (λ l. Uses (Has (map (λ e. e.to) l)) c.args.met.now.nodes.keys c.args.met.now.marks.items c.loop-edge.met.nodes.keys c.loop-edge.met.marks.items)
    (take_all c.loop-edge.edge-index c.args.walk.now (omega arith)) c.loop-edge.invariant
