-- The steps of the nodes, sorted by their heights.
use Rattle.std.proofs.Common.{subst, rules, arith}
use Rattle.std.proofs.lemmas.List.{take_all}
use Rattle.std.proofs.lemmas.List.Sorted.{IsNonDecreasingBy-from_sort_by_key}
use Rattle.tm_cone.specs.declared.nodes.Step.{Step}
use Rattle.tm_cone.proofs.OrderLemmas.{AreSteps, sorted_nodes, sorted_ascend}
use Rattle.tm_cone.proofs.nodes.in_order.Goals as goal

pub returns-clause-nodes : goal.returns-clause-nodes
returns-clause-nodes c =
    let all = take_all c.loop-node.node-index c.args.nodes.now (omega (arith, c.loop-node-test.false)) in
    let are = subst (λ nodes. AreSteps c.args.circuit.now nodes c.loop-node.steps.items) all c.loop-node.invariant in
    sorted_nodes c.args.circuit.now c.args.nodes.now c.loop-node.steps.items c.sort_unstable_by_key.new.self.items are c.sort_unstable_by_key.ensures.permutation

pub returns-clause-order : goal.returns-clause-order
returns-clause-order c =
    let all = take_all c.loop-node.node-index c.args.nodes.now (omega (arith, c.loop-node-test.false)) in
    let are = subst (λ nodes. AreSteps c.args.circuit.now nodes c.loop-node.steps.items) all c.loop-node.invariant in
    sorted_ascend c.args.circuit.now c.args.nodes.now c.loop-node.steps.items c.sort_unstable_by_key.new.self.items are c.sort_unstable_by_key.ensures.permutation
    (IsNonDecreasingBy-from_sort_by_key (λ (s : Step). s.height) c.sort_unstable_by_key.new.self.items c.sort_unstable_by_key.ensures.sorted (λ a r q k. search rules))
