use Rattle.std.proofs.Common.{refl, arith}
use Rattle.tm_flow.proofs.SearchLemmas.{back_first, back_on}
use Rattle.tm_flow.proofs.search.meet_back.Goals as goal

pub loop-edge-preserved : goal.loop-edge-preserved
loop-edge-preserved g c =
    back_on c.loop-edge.edge-index c.edge-item.result c.meet_at.new.search.met.nodes.keys c.meet_at.new.search.met.marks.items c.meet_at.new.search.pending.items c.far.result _
    (omega arith) c.edge-item.is c.far.ensures refl c.loop-edge.invariant c.in_ok-meet_at.ensures.meets c.in_ok-meet_at.ensures.met

pub loop-edge-init : goal.loop-edge-init
loop-edge-init g c =
    back_first c.args.edges.now c.args.depth c.args.search.now.met.nodes.keys c.args.search.now.met.marks.items c.args.search.now.pending.items c.requires
