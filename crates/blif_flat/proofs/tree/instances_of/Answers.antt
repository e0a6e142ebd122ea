-- The fault or the number is told of the graph as the code made it.
use Rattle.std.proofs.Common.{◌<◌, ℕ, sym, subst, refl, arith, length, map, get_or, Vec, Global}
use Rattle.std.proofs.lemmas.List.{get_or_read}
use Rattle.blif_flat.specs.Graph.{HasCircle, IsGraph, IsOrder}
use Rattle.blif_flat.specs.Extent.{IsDepth, IsCount}
use Rattle.blif_flat.specs.Plan.{graph_of}
use Rattle.blif_flat.specs.Sites.{Sited}
use Rattle.blif_flat.specs.Tree.{AreInstances, in_circle}
use Rattle.blif_flat.proofs.FlatLemmas.{graph_read, graph_long, deep_fault, instances_by_order}
use Rattle.blif_flat.proofs.tree.instances_of.Goals as goal

pub placed_first-requires : goal.placed_first-requires
placed_first-requires c = subst (λ g. IsGraph g) (sym (graph_read c.args.sites.now c.in_ok-graph.graph.items c.deref.result.now c.deref.ensures.value c.in_ok-graph.ensures)) c.requires.graph

pub all_levels-requires-clause-graph : goal.all_levels-requires-clause-graph
all_levels-requires-clause-graph c = subst (λ g. IsGraph g) (sym (graph_read c.args.sites.now c.in_ok-graph.graph.items c.deref-2.result.now c.deref-2.ensures.value c.in_ok-graph.ensures)) c.requires.graph

pub all_instances-requires-clause-graph : goal.all_instances-requires-clause-graph
all_instances-requires-clause-graph c = subst (λ g. IsGraph g) (sym (graph_read c.args.sites.now c.in_ok-graph.graph.items c.deref-4.result.now c.deref-4.ensures.value c.in_ok-graph.ensures)) c.requires.graph

pub returns-in_default-clause-fault : goal.returns-in_default-clause-fault
returns-in_default-clause-fault c =
    let same = graph_read c.args.sites.now c.in_ok-graph.graph.items c.deref.result.now c.deref.ensures.value c.in_ok-graph.ensures in
    rw c.at.ensures (in_circle refl (subst (λ g. HasCircle g) same (rw c.in_default.is at c.in_ok-order.ensures)))

pub returns-then-index-gt-MOST_LEVELS-clause-fault : goal.returns-then-index-gt-MOST_LEVELS-clause-fault
returns-then-index-gt-MOST_LEVELS-clause-fault c =
    let same = graph_read c.args.sites.now c.in_ok-graph.graph.items c.deref.result.now c.deref.ensures.value c.in_ok-graph.ensures in
    let same' = graph_read c.args.sites.now c.in_ok-graph.graph.items c.deref-2.result.now c.deref-2.ensures.value c.in_ok-graph.ensures in
    let long = graph_long c.args.sites.now c.in_ok-graph.graph.items c.deref-2.result.now c.deref-2.ensures.value c.in_ok-graph.ensures in
    let some : 0 < length c.deref-2.result.now = omega (arith, long, c.requires.some) in
    let levels : ℕ = get_or c.in_ok-levels.levels.items 0 0 in
    let order = subst (λ g. IsOrder g c.in-Some.order.items) same (rw c.in-Some.is at c.in_ok-order.ensures) in
    let depth = subst (λ g. IsDepth g 0 levels) same' (c.in_ok-levels.ensures.levels 0 some) in
    let read = get_or_read c.in_ok-levels.levels.items 0 c.index.result.now (omega (arith, some, c.in_ok-levels.ensures.sized)) c.index.ensures 0 in
    rw c.at-then-index-gt-MOST_LEVELS.ensures (deep_fault _ c.in-Some.order.items levels _ order depth (omega (arith, read, c.if-index-gt-MOST_LEVELS.true)) refl)

pub returns-clause-instances : goal.returns-clause-instances
returns-clause-instances c =
    let same = graph_read c.args.sites.now c.in_ok-graph.graph.items c.deref.result.now c.deref.ensures.value c.in_ok-graph.ensures in
    let same' = graph_read c.args.sites.now c.in_ok-graph.graph.items c.deref-2.result.now c.deref-2.ensures.value c.in_ok-graph.ensures in
    let same'' = graph_read c.args.sites.now c.in_ok-graph.graph.items c.deref-4.result.now c.deref-4.ensures.value c.in_ok-graph.ensures in
    let long = graph_long c.args.sites.now c.in_ok-graph.graph.items c.deref-2.result.now c.deref-2.ensures.value c.in_ok-graph.ensures in
    let long' = graph_long c.args.sites.now c.in_ok-graph.graph.items c.deref-4.result.now c.deref-4.ensures.value c.in_ok-graph.ensures in
    let some : 0 < length c.deref-2.result.now = omega (arith, long, c.requires.some) in
    let some' : 0 < length c.deref-4.result.now = omega (arith, long', c.requires.some) in
    let levels : ℕ = get_or c.in_ok-levels.levels.items 0 0 in
    let count : ℕ = get_or c.in_ok-instances.instances.items 0 0 in
    let order = subst (λ g. IsOrder g c.in-Some.order.items) same (rw c.in-Some.is at c.in_ok-order.ensures) in
    let depth = subst (λ g. IsDepth g 0 levels) same' (c.in_ok-levels.ensures.levels 0 some) in
    let counted = subst (λ g. IsCount g 0 count) same'' (c.in_ok-instances.ensures.instances 0 some') in
    let read = get_or_read c.in_ok-levels.levels.items 0 c.index.result.now (omega (arith, some, c.in_ok-levels.ensures.sized)) c.index.ensures 0 in
    let read' = get_or_read c.in_ok-instances.instances.items 0 c.index-2.result.now (omega (arith, some', c.in_ok-instances.ensures.sized)) c.index-2.ensures 0 in
    subst (λ n. AreInstances (graph_of (map (λ (v : Vec Sited Global). v.items) c.args.sites.now)) n) (sym read') (instances_by_order (graph_of (map (λ (v : Vec Sited Global). v.items) c.args.sites.now)) c.in-Some.order.items levels count order depth (omega (arith, read, c.if-index-gt-MOST_LEVELS.false)) counted)
