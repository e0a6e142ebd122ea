-- One node more.
use Rattle.std.proofs.Common.{◌≡◌, rules, w8, to_z, of_z, FitsSigned, ℤ, sym, ◌∙◌, ap}
use Rattle.std.proofs.lemmas.Int.{to_z-of_z}
use Rattle.two_way.specs.Nodes.{node_at}
use Rattle.two_way.specs.Amounts.{amount, two_node}
use Rattle.two_way.proofs.MapLemmas.{mapped_more}
use Rattle.two_way.proofs.amounts.two_nodes.Goals as goal

pub amount-requires-clause-low : goal.amount-requires-clause-low
amount-requires-clause-low c = c.requires.low c.node-item.result (c.loop-node.node-index, c.loop-node-test.true, sym c.node-item.is)

pub loop-node-preserved : goal.loop-node-preserved
loop-node-preserved c =
    let fits : FitsSigned w8 c.amount.result = search rules in
    let same : to_z w8 (of_z w8 c.amount.result) ≡ amount c.args.b c.node-item.result.advance = to_z-of_z w8 c.amount.result fits ∙ c.amount.ensures in
    mapped_more (two_node c.args.b) c.args.nodes.now c.loop-node.two.items c.push.new.self.items c.loop-node.node-index c.node-item.result
    (node_at (to_z w8 (of_z w8 c.amount.result)) c.node-item.result.signal) c.loop-node-test.true c.node-item.is c.loop-node.invariant
    (ap (λ (z : ℤ). node_at z c.node-item.result.signal) same) c.in_ok-push.ensures.items
