-- The nodes down to the leaves, in order, have their words, and so has the root.
use Rattle.std.proofs.Common.{List, length, sym, ap, subst}
use Rattle.std.specs.Prelude.{Contains}
use Rattle.std.specs.List.Sorted.{IsPermutation}
use Rattle.std.proofs.lemmas.List.Sorted.{Contains-permutation}
use Rattle.tm_unroll.specs.Nodes.{node_at}
use Rattle.tm_cone.specs.declared.nodes.Step.{Step}
use Rattle.tm_cone.specs.Values.{IsInOrder, HasValue}
use Rattle.tm_cone.proofs.OrderLemmas.{nodes_in, all_signals, cone_in_order}
use Rattle.tm_cone.proofs.ValueLemmas.{function_from, value_read}
use Rattle.tm_cone.proofs.cone.table_of.Goals as goal

pub in_order-requires : goal.in_order-requires
in_order-requires c = all_signals c.args.circuit.now.drives c.as_slice-leaves.result.now _ c.in_ok-cone.cone.keys c.as_slice.result.now c.in_ok-cone.ensures c.as_slice.ensures.keys

pub cone_values-requires-clause-order : goal.cone_values-requires-clause-order
cone_values-requires-clause-order c =
    let root = node_at c.args.lut.now.lag c.args.lut.now.gate in
    let leaves = c.as_slice-leaves.result.now in
    let ordered = nodes_in c.in_ok-steps.steps.items in
    subst (λ (l : List Step). IsInOrder c.args.circuit.now.drives leaves (nodes_in l)) (sym c.deref.ensures.value)
    (cone_in_order c.args.circuit.now c.signals-sound.ensures.sound leaves root c.in_ok-cone.cone.keys ordered c.in_ok-cone.ensures
    (subst (λ l. IsPermutation l ordered) c.as_slice.ensures.keys c.in_ok-steps.ensures.nodes) c.in_ok-steps.ensures.order)

pub index-requires : goal.index-requires
index-requires c =
    let root = node_at c.args.lut.now.lag c.args.lut.now.gate in
    let ordered = nodes_in c.in_ok-steps.steps.items in
    let stands : Contains (nodes_in c.deref.result.now) root =
    subst (λ (l : List Step). Contains (nodes_in l) root) (sym c.deref.ensures.value)
    (Contains-permutation c.in_ok-cone.cone.keys ordered root (subst (λ l. IsPermutation l ordered) c.as_slice.ensures.keys c.in_ok-steps.ensures.nodes) c.in_ok-cone.ensures.root_in) in
    c.in_ok-values.ensures.known root stands

pub returns-clause-function : goal.returns-clause-function
returns-clause-function c =
    let root = node_at c.args.lut.now.lag c.args.lut.now.gate in
    let drives = c.args.circuit.now.drives in
    let leaves = c.as_slice-leaves.result.now in
    let ordered = nodes_in c.in_ok-steps.steps.items in
    let stands : Contains (nodes_in c.deref.result.now) root =
    subst (λ (l : List Step). Contains (nodes_in l) root) (sym c.deref.ensures.value)
    (Contains-permutation c.in_ok-cone.cone.keys ordered root (subst (λ l. IsPermutation l ordered) c.as_slice.ensures.keys c.in_ok-steps.ensures.nodes) c.in_ok-cone.ensures.root_in) in
    let value : HasValue drives leaves root c.index.result.now =
    value_read drives leaves (nodes_in c.deref.result.now) c.in_ok-values.values root c.index.result.now c.in_ok-values.ensures stands c.index.ensures in
    λ bits evaluates.
    function_from drives c.args.lut.now.leaves.items root c.index.result.now c.table_with.result.words (length leaves)
    (subst (λ l. HasValue drives l root c.index.result.now) c.as_slice-leaves.ensures value) (ap length c.as_slice-leaves.ensures) c.table_with.ensures.values bits evaluates
