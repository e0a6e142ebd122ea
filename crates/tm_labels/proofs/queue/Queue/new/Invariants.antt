-- the marks so far
use Rattle.tm_labels.proofs.QueueLemmas.{IsNewQueue}
use Rattle.tm_labels.proofs.queue.Queue.new.Given as goal

abbrev pub invariant-loop-s : goal.invariant-loop-s
invariant-loop-s l = IsNewQueue l.circuit.drives l.counts l.s l.queued.items
