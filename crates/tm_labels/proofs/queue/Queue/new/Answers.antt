-- A gate that counts is marked, and no other signal.
use Rattle.std.proofs.Common.{◌+◌, Bool, List, sym, subst}
use Rattle.tm_labels.proofs.QueueLemmas.{IsNewQueue, new_more}
use Rattle.tm_labels.proofs.queue.Queue.new.Goals as goal

pub loop-s-preserved : goal.loop-s-preserved
loop-s-preserved c =
    let waits = c.is_counting_gate-waits.result in
    subst (λ (qs : List Bool). IsNewQueue c.args.circuit.now.drives c.args.counts.now (c.loop-s.s + 1) qs) (sym c.in_ok-push.ensures.items)
    (new_more c.args.circuit.now.drives c.args.counts.now c.loop-s.s c.loop-s.queued.items waits c.loop-s.invariant
    c.is_counting_gate-waits.ensures.0 (λ counted gate. c.is_counting_gate-waits.ensures.1 (counted, gate)))
