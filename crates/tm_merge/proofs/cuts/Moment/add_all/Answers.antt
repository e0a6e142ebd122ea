-- One node more is taken in.
use Rattle.std.proofs.Common.{◌<◌, List, length, refl, subst, arith}
use Rattle.std.proofs.lemmas.List.{take_all}
use Rattle.tm_unroll.specs.declared.node.Node.{Node}
use Rattle.tm_merge.specs.Merges.{TakesIn}
use Rattle.tm_merge.proofs.MergeLemmas.{takes_none, takes_next}
use Rattle.tm_merge.proofs.cuts.Moment.add_all.Goals as goal

pub loop-node-init : goal.loop-node-init
loop-node-init c = takes_none c.args.self.now _ c.args.merging.now refl c.requires

pub add-requires : goal.add-requires
add-requires c = c.loop-node.invariant.leaves

pub loop-node-preserved : goal.loop-node-preserved
loop-node-preserved c =
    let within : c.loop-node.node-index < length c.args.nodes.now = omega arith in
    takes_next c.args.self.now c.args.nodes.now c.loop-node.node-index c.node-item.result c.args.merging.now c.loop-node.merging c.add.new.merging within c.node-item.is
    c.loop-node.invariant (c.in_ok-add.ensures c.if-not-branch.false)

pub returns : goal.returns
returns c = λ _.
    subst (λ (l : List Node). TakesIn c.args.self.now l c.args.merging.now c.loop-node.merging) (take_all c.loop-node.node-index c.args.nodes.now (omega (arith, c.loop-node-test.false))) c.loop-node.invariant
