use Rattle.std.proofs.Common.{◌≡◌, ◌<◌, ◌∙◌, ℕ, Vec, Global, List, map, length, get_or, refl, sym, subst, ap, arith}
use Rattle.std.proofs.lemmas.List.{length-map, length-set}
use Rattle.tm_circuit.proofs.ListLemmas.{contains-none}
use Rattle.blif_flat.specs.Graph.{placed_in}
use Rattle.blif_flat.specs.Extent.{IsCount, instances_by}
use Rattle.blif_flat.proofs.DescentLemmas.{placed_at}
use Rattle.blif_flat.proofs.ExtentLemmas.{count_by, valued_more, order_at, order_after, placed_within, order_all}
use Rattle.blif_flat.proofs.extent.all_instances.Goals as goal

abbrev items_of : Vec ℕ Global → List ℕ
items_of v = v.items

pub offset_bounds-graph-model : goal.offset_bounds-graph-model
offset_bounds-graph-model c =
    let below = order_at (map items_of c.args.graph.now) c.args.order.now c.requires.order c.loop-model.model-index c.loop-model-test.true in
    omega (arith, below, length-map c.args.graph.now items_of)

pub bounds-graph-model : goal.bounds-graph-model
bounds-graph-model c =
    let below = order_at (map items_of c.args.graph.now) c.args.order.now c.requires.order c.loop-model.model-index c.loop-model-test.true in
    omega (arith, below, length-map c.args.graph.now items_of)

pub index_mut-requires : goal.index_mut-requires
index_mut-requires c =
    let below = order_at (map items_of c.args.graph.now) c.args.order.now c.requires.order c.loop-model.model-index c.loop-model-test.true in
    omega (arith, below, length-map c.args.graph.now items_of, c.loop-model.invariant.0)

pub instances-requires : goal.instances-requires
instances-requires c = λ k d within.
    let below = order_at (map items_of c.args.graph.now) c.args.order.now c.requires.order c.loop-model.model-index c.loop-model-test.true in
    let placed = placed_at items_of c.args.graph.now (get_or c.args.order.now c.loop-model.model-index 0) c.index-graph-model.result _ below c.index-graph-model.is c.deref.ensures.value in
    let inside = placed_within (map items_of c.args.graph.now) (get_or c.args.order.now c.loop-model.model-index 0) c.deref.result.now c.requires.graph placed k d within in
    omega (arith, inside, length-map c.args.graph.now items_of, c.loop-model.invariant.0, c.deref-in-loop-model.ensures.len, ap length c.deref-in-loop-model.ensures.value)

pub loop-model-init : goal.loop-model-init
loop-model-init c = (omega (arith, c.in_ok-all.ensures.len), λ m h. absurd (contains-none m h))

pub loop-model-preserved : goal.loop-model-preserved
loop-model-preserved c =
    let below = order_at (map items_of c.args.graph.now) c.args.order.now c.requires.order c.loop-model.model-index c.loop-model-test.true in
    let placed = placed_at items_of c.args.graph.now (get_or c.args.order.now c.loop-model.model-index 0) c.index-graph-model.result _ below c.index-graph-model.is c.deref.ensures.value in
    let inside : get_or c.args.order.now c.loop-model.model-index 0 < length c.loop-model.all.items = omega (arith, below, length-map c.args.graph.now items_of, c.loop-model.invariant.0) in
    let is : c.instances.result ≡ instances_by c.loop-model.all.items (placed_in (map items_of c.args.graph.now) (get_or c.args.order.now c.loop-model.model-index 0)) =
    c.instances.ensures ∙ ap (λ all. instances_by all c.deref.result.now) c.deref-in-loop-model.ensures.value ∙ ap (instances_by c.loop-model.all.items) placed in
    let here : IsCount (map items_of c.args.graph.now) (get_or c.args.order.now c.loop-model.model-index 0) c.instances.result =
    subst (λ v. IsCount (map items_of c.args.graph.now) (get_or c.args.order.now c.loop-model.model-index 0) v) (sym is)
    (count_by (map items_of c.args.graph.now) c.loop-model.all.items (get_or c.args.order.now c.loop-model.model-index 0) (λ p i. c.loop-model.invariant.1 p (order_after (map items_of c.args.graph.now) c.args.order.now c.requires.order c.loop-model.model-index c.loop-model-test.true p i))) in (
      length-set c.loop-model.all.items (get_or c.args.order.now c.loop-model.model-index 0) c.instances.result ∙ c.loop-model.invariant.0,
      λ q there. valued_more (λ x v. IsCount (map items_of c.args.graph.now) x v) c.args.order.now c.loop-model.all.items c.loop-model.model-index (get_or c.args.order.now c.loop-model.model-index 0) c.instances.result c.loop-model-test.true refl inside c.loop-model.invariant.1 here q there,
    )

pub returns : goal.returns
returns c = record {
  sized = c.loop-model.invariant.0;
  instances = λ m below. c.loop-model.invariant.1 m (order_all (map items_of c.args.graph.now) c.args.order.now c.loop-model.model-index m c.requires.order c.loop-model-test.false (omega (arith, below, length-map c.args.graph.now items_of)));
}
