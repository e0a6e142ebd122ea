-- A node without room refuses all, and one that is added is one more.
use Rattle.std.proofs.Common.{◌<◌, length, arith}
use Rattle.std.proofs.lemmas.Bool.{MatchBool-at_true, MatchBool-at_false}
use Rattle.tm_unroll.proofs.AddLemmas.{joins_more, beyond_more}
use Rattle.tm_unroll.proofs.replace.add_nodes.Goals as goal

pub returns-then-not-branch-clause-all : goal.returns-then-not-branch-clause-all
returns-then-not-branch-clause-all c =
    let within : c.loop-node.node-index < length c.args.nodes.now = omega arith in
    beyond_more c.args.but c.args.nodes.now c.loop-node.node-index c.node-item.result c.args.k c.args.ascending.now.items c.loop-node.ascending.items within c.node-item.is c.loop-node.invariant.joins
    (MatchBool-at_false _ _ c.if-not-branch.true c.in_ok-add_node.ensures.added)

pub loop-node-preserved : goal.loop-node-preserved
loop-node-preserved c =
    let within : c.loop-node.node-index < length c.args.nodes.now = omega arith in
    record {
      joins = joins_more c.args.but c.args.nodes.now c.loop-node.node-index c.node-item.result c.args.k c.args.ascending.now.items c.loop-node.ascending.items c.add_node.new.ascending.items
          within c.node-item.is c.loop-node.invariant.joins (MatchBool-at_true _ _ c.if-not-branch.false c.in_ok-add_node.ensures.added);
      capacity = λ room. omega (arith, c.loop-node.invariant.capacity room, c.add_node.ensures.capacity);
    }
