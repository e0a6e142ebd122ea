use Rattle.std.proofs.Common.{sym, ◌∙◌, arith}
use Rattle.tm_flow.specs.Searches.{is_far_met}
use Rattle.tm_flow.proofs.FirstLemmas.{first_passed, first_found}
use Rattle.tm_flow.proofs.cut.first_on_walk.Goals as goal

pub loop-edge-preserved : goal.loop-edge-preserved
loop-edge-preserved g c =
    first_passed (is_far_met g.N.Node.PartialEq.eq c.args.met.now.nodes.keys c.args.met.now.marks.items) c.args.walk.now c.loop-edge.edge-index c.edge-item.result (omega arith) c.edge-item.is
    (sym c.is_far_met.ensures ∙ c.if-not-is_far_met.false) c.loop-edge.invariant

pub returns-then-not-is_far_met : goal.returns-then-not-is_far_met
returns-then-not-is_far_met g c =
    first_found (is_far_met g.N.Node.PartialEq.eq c.args.met.now.nodes.keys c.args.met.now.marks.items) c.args.walk.now c.loop-edge.edge-index c.edge-item.result (omega arith) c.edge-item.is
    (sym c.is_far_met.ensures ∙ c.if-not-is_far_met.true) c.loop-edge.invariant
