use Rattle.std.proofs.Common.{arith}
use Rattle.tm_flow.specs.Searches.{is_far_met}
use Rattle.tm_flow.proofs.FirstLemmas.{all_first_more}
use Rattle.tm_flow.proofs.cut.cut_of.Goals as goal

pub loop-walk-preserved : goal.loop-walk-preserved
loop-walk-preserved g c =
    all_first_more (is_far_met g.N.Node.PartialEq.eq c.args.met.now.nodes.keys c.args.met.now.marks.items) (λ w. w.items) c.loop-walk.nodes.items c.push_first.new.nodes.items
    c.args.walks.now c.loop-walk.walk-index c.walk-item.result
    c.as_slice.result.now (omega arith) c.walk-item.is c.as_slice.ensures.value c.loop-walk.invariant c.in_ok-push_first.ensures
