-- the leaves are served in time, and with the nodes that wait they cover the gate at its lag
use Rattle.tm_unroll.specs.Nodes.{node_at}
use Rattle.tm_merge.proofs.MergeLemmas.{IsUnderWay}
use Rattle.tm_merge.proofs.cuts.Moment.merged.Given as goal

abbrev pub invariant-loop-round : goal.invariant-loop-round
invariant-loop-round l = IsUnderWay l.self (node_at l.lag l.fn.gate) l.merging
