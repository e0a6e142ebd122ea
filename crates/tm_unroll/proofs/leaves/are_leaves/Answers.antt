-- Each node is a leaf, or one is none.
use Rattle.std.proofs.Common.{◌<◌, length, refl, sym, ◌∙◌, arith}
use Rattle.std.proofs.lemmas.Bool.{false≢true}
use Rattle.tm_unroll.specs.declared.node.Node.{Node}
use Rattle.tm_unroll.specs.Mappings.{IsLeaf}
use Rattle.tm_unroll.proofs.EachLemmas.{stands-at, each-more, each-all}
use Rattle.tm_unroll.proofs.leaves.are_leaves.Goals as goal

pub returns-then-not-is_leaf : goal.returns-then-not-is_leaf
returns-then-not-is_leaf c =
    let within : c.loop-node.node-index < length c.args.nodes.now = omega arith in (
      λ e. absurd (false≢true e),
      λ all. absurd (false≢true (sym c.if-not-is_leaf.true ∙ c.is_leaf.ensures.1 (all c.node-item.result (stands-at c.args.nodes.now c.loop-node.node-index c.node-item.result within c.node-item.is)))),
    )

pub loop-node-preserved : goal.loop-node-preserved
loop-node-preserved c =
    let within : c.loop-node.node-index < length c.args.nodes.now = omega arith in
    each-more (λ (x : Node). IsLeaf 0 c.args.circuit.now.drives c.args.lag x) c.args.nodes.now c.loop-node.node-index c.node-item.result c.loop-node.invariant within c.node-item.is
    (c.is_leaf.ensures.0 c.if-not-is_leaf.false)

pub returns : goal.returns
returns c =
    (λ _. each-all (λ (x : Node). IsLeaf 0 c.args.circuit.now.drives c.args.lag x) c.args.nodes.now c.loop-node.node-index c.loop-node.invariant (omega (arith, c.loop-node-test.false)), λ _. refl)
