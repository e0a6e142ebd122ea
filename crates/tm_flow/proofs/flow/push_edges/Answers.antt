use Rattle.std.proofs.Common.{◌++◌, ◌∙◌, ap, arith}
use Rattle.tm_flow.specs.Flows.{edges_to}
use Rattle.tm_flow.proofs.FlowLemmas.{leads_at, all_edges_to_more}
use Rattle.tm_flow.proofs.flow.push_edges.Goals as goal

pub push_edge-requires : goal.push_edge-requires
push_edge-requires g c =
    leads_at (λ w. w.items) (g.N.LazyNet.shape c.args.net.now) c.args.walks.now c.loop-walk.walk-index c.walk-item.result c.as_slice.result.now
    c.requires (omega arith) c.walk-item.is c.as_slice.ensures.value

pub loop-walk-preserved : goal.loop-walk-preserved
loop-walk-preserved g c =
    all_edges_to_more g.N.Node.PartialEq.eq (λ w. w.items) c.args.node c.args.edges.now.items c.loop-walk.edges.items c.push_edge.new.edges.items
    c.args.walks.now c.loop-walk.walk-index c.walk-item.result (omega arith) c.walk-item.is c.loop-walk.invariant
    (c.in_ok-push_edge.ensures ∙ ap (λ l. c.loop-walk.edges.items ++ edges_to g.N.Node.PartialEq.eq c.args.node l) c.as_slice.ensures.value)
