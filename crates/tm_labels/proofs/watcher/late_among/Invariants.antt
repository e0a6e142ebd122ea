-- those among the first watchers
use Rattle.std.proofs.Common.{map, take}
use Rattle.tm_labels.specs.Watched.{AreLateAmong}
use Rattle.tm_labels.proofs.watcher.late_among.Given as goal

abbrev pub invariant-loop-watcher : goal.invariant-loop-watcher
invariant-loop-watcher l = AreLateAmong l.moment.base l.moment.circuit.now l.moment.labels.now l.moment.counts.now l.moment.queued.now (map (λ cut. cut.items) l.moment.leaves.now) (take l.watcher-index l.watchers) l.late.items
