-- One signal more is marked.
use Rattle.std.proofs.Common.{◌≡◌, sym, get_or, subst, arith}
use Rattle.tm_labels.proofs.QueueLemmas.{joined_more}
use Rattle.tm_labels.proofs.queue.mark_all.Goals as goal

pub loop-s-preserved : goal.loop-s-preserved
loop-s-preserved c =
    let at = c.s-item.is in
    let here : c.s.inside.0 ≡ get_or c.args.signals.now c.loop-s.s-index c.s.inside.0 = subst (λ g. g ≡ get_or c.args.signals.now c.loop-s.s-index g) (sym c.s.view_is) at in
    let low = c.requires c.loop-s.s-index c.s-item.result c.loop-s-test.true in
    let sized = c.loop-s.invariant.sized in
    joined_more c.args.marks.now c.loop-s.marks c.args.signals.now c.loop-s.s-index c.s.inside.0 c.loop-s-test.true here (omega (arith, low, sized, at, c.s.view_is)) c.loop-s.invariant
