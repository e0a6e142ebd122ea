use Rattle.std.proofs.Common.{[], sym, ap, refl, ◌∙◌, arith}
use Rattle.tm_flow.specs.Flows.{edges_to}
use Rattle.tm_flow.proofs.FlowLemmas.{leads_at, all_edges_to_more}
use Rattle.tm_flow.proofs.known.is_on.Goals as goal

pub place_to-requires : goal.place_to-requires
place_to-requires g c =
    leads_at (λ w. w.items) (g.N.LazyNet.shape c.args.net.now) c.args.walks.now c.loop-walk.walk-index c.walk-item.result c.as_slice.result.now
    c.requires (omega arith) c.walk-item.is c.as_slice.ensures.value

pub loop-walk-preserved : goal.loop-walk-preserved
loop-walk-preserved g c =
    sym (all_edges_to_more g.N.Node.PartialEq.eq (λ w. w.items) c.args.node [] [] (edges_to g.N.Node.PartialEq.eq c.args.node c.walk-item.result.items)
    c.args.walks.now c.loop-walk.walk-index c.walk-item.result (omega arith) c.walk-item.is (sym c.loop-walk.invariant) refl)
    ∙ ap (edges_to g.N.Node.PartialEq.eq c.args.node) (sym c.as_slice.ensures.value) ∙ c.in_default.ensures.absent
