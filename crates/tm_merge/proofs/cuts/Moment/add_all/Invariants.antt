-- the nodes so far are taken in
use Rattle.std.proofs.Common.{take}
use Rattle.tm_merge.specs.Merges.{TakesIn}
use Rattle.tm_merge.proofs.cuts.Moment.add_all.Given as goal

abbrev pub invariant-loop-node : goal.invariant-loop-node
invariant-loop-node l = TakesIn l.self (take l.node-index l.nodes) l.fn.merging l.merging
