-- A merge begins with what the gate reads, and goes on by one kept cut after another.
use Rattle.std.proofs.Common.{refl}
use Rattle.tm_unroll.specs.Nodes.{node_at}
use Rattle.tm_merge.specs.declared.cuts.Merging.{Merging}
use Rattle.tm_merge.proofs.MergeLemmas.{begins, goes_on}
use Rattle.tm_merge.proofs.cuts.Moment.merged.Goals as goal

pub loop-round-init : goal.loop-round-init
loop-round-init c =
    let reads = c.in_ok-add_reads.ensures c.if-not-branch.false in
    begins c.args.self.now c.args.lag c.args.gate c.new-merging.result c.add_reads.new.merging reads.gate c.new-merging.ensures.leaves c.new-merging.ensures.late reads.takes

pub loop-round-preserved : goal.loop-round-preserved
loop-round-preserved c =
    let m = c.args.self.now in
    let old = c.loop-round.merging in
    let popped : Merging = record { leaves = old.leaves; late = c.pop.new.self } in
    goes_on m (node_at c.args.lag c.args.gate) c.in-Some.node c.in-Some-cut_of.cut.now old popped c.add_all.new.merging c.loop-round.invariant refl c.in-Some.ensures.items
    c.in-Some-cut_of.ensures (c.in_ok-add_all.ensures c.if-not-branch-2.false)
