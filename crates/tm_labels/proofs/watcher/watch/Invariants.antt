-- none went, and the first leaves are watched
use Rattle.std.proofs.Common.{map, take}
use Rattle.tm_labels.specs.Watched.{AddsWatchers, AreWatchedAs}
use Rattle.tm_labels.proofs.watcher.watch.Given as goal

abbrev pub invariant-loop-leaf : goal.invariant-loop-leaf
invariant-loop-leaf l = AddsWatchers (map (λ list. list.items) l.fn.watchers) (map (λ list. list.items) l.watchers)
    × AreWatchedAs l.circuit.drives l.gate l.version (take l.leaf-index l.leaves) (map (λ list. list.items) l.watchers)
