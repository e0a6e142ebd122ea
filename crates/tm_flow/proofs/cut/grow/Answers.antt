use Rattle.std.proofs.Common.{◌∙◌, ◌⊎◌, ap, map, subst, sym}
use Rattle.std.proofs.lemmas.List.{length-map}
use Rattle.tm_flow.specs.Lists.{Has, Each, At}
use Rattle.tm_flow.specs.Flows.{Leads, InFlow, all_edges_to}
use Rattle.tm_flow.specs.Searches.{is_far_met, all_first_unmet, IsOutcome, IsKnown, CanGrow, Uses}
use Rattle.tm_flow.specs.declared.search.Searched.TheVariants.{Walk, Nowhere}
use Rattle.tm_flow.proofs.Final.{can_grow, cuts}
use Rattle.tm_flow.proofs.UseLemmas.{known_grown}
use Rattle.tm_flow.proofs.cut.grow.Goals as goal

pub find_walk-requires-clause-walks : goal.find_walk-requires-clause-walks
find_walk-requires-clause-walks g c =
    subst (λ l. Each (Leads (g.N.LazyNet.shape c.args.net.now) c.args.root) (map (λ w. w.items) l)) (sym c.as_slice.ensures.value) c.requires.flow.walks

pub find_walk-requires-clause-known : goal.find_walk-requires-clause-known
find_walk-requires-clause-known g c =
    let met = c.args.memory.now.search.met in
    subst (λ l. IsKnown (g.N.LazyNet.shape c.args.net.now) c.args.root (map (λ w. w.items) l) met.nodes.keys met.marks.items) (sym c.as_slice.ensures.value) c.requires.known

pub augment-requires : goal.augment-requires
augment-requires g c =
    let n = g.N.LazyNet.shape c.args.net.now in
    let eq = g.N.Node.PartialEq.eq in
    let met = c.find_walk.new.memory.search.met in
    let way = c.find_walk.new.memory.way.items in
    let ws = map (λ w. w.items) c.args.walks.now.items in
    let can : CanGrow n eq c.args.root ws c.as_slice-in-Walk.result.now =
    subst (CanGrow n eq c.args.root ws) (sym c.as_slice-in-Walk.ensures.value)
    (can_grow n eq c.args.root ws way c.requires.flow
    (subst (λ l. IsOutcome n (λ v. all_edges_to eq v (map (λ w. w.items) l)) c.args.root met.nodes.keys met.marks.items way Walk) c.as_slice.ensures.value
    (subst (IsOutcome n (λ v. all_edges_to eq v (map (λ w. w.items) c.as_slice.result.now)) c.args.root met.nodes.keys met.marks.items way) c.in-Walk.is c.in_ok-find_walk.ensures.outcome))) in
    (c.args.root, can)

pub use_way-requires-clause-numbered : goal.use_way-requires-clause-numbered
use_way-requires-clause-numbered g c = c.in_ok-find_walk.ensures.known.numbered

pub use_way-requires-clause-numbers : goal.use_way-requires-clause-numbers
use_way-requires-clause-numbers g c =
    subst (Each (λ t. At c.find_walk.new.memory.search.met.nodes.keys t.number t.side.node)) (sym c.as_slice-in-Walk-2.ensures.value) c.in_ok-find_walk.ensures.numbers

pub returns-in_ok-augment-in-Walk : goal.returns-in_ok-augment-in-Walk
returns-in_ok-augment-in-Walk g c =
    let n = g.N.LazyNet.shape c.args.net.now in
    let eq = g.N.Node.PartialEq.eq in
    let met = c.find_walk.new.memory.search.met in
    let new = c.use_way.new.met in
    let way = c.find_walk.new.memory.way.items in
    let ws = map (λ w. w.items) c.args.walks.now.items in
    let ws_new = map (λ w. w.items) c.augment.new.walks.items in
    let can : CanGrow n eq c.args.root ws c.as_slice-in-Walk.result.now =
    subst (CanGrow n eq c.args.root ws) (sym c.as_slice-in-Walk.ensures.value)
    (can_grow n eq c.args.root ws way c.requires.flow
    (subst (λ l. IsOutcome n (λ v. all_edges_to eq v (map (λ w. w.items) l)) c.args.root met.nodes.keys met.marks.items way Walk) c.as_slice.ensures.value
    (subst (IsOutcome n (λ v. all_edges_to eq v (map (λ w. w.items) c.as_slice.result.now)) c.args.root met.nodes.keys met.marks.items way) c.in-Walk.is c.in_ok-find_walk.ensures.outcome))) in
    let known : IsKnown n c.args.root ws met.nodes.keys met.marks.items =
    subst (λ l. IsKnown n c.args.root (map (λ w. w.items) l) met.nodes.keys met.marks.items) c.as_slice.ensures.value c.in_ok-find_walk.ensures.known in
    let uses : Uses (Has (map (λ t. t.side.node) way)) met.nodes.keys met.marks.items new.nodes.keys new.marks.items =
    subst (λ l. Uses (Has (map (λ t. t.side.node) l)) met.nodes.keys met.marks.items new.nodes.keys new.marks.items) c.as_slice-in-Walk-2.ensures.value c.use_way.ensures.uses in (
      c.in_ok-augment-in-Walk.ensures.flow c.args.root can,
      c.in_ok-augment-in-Walk.ensures.len,
      known_grown n c.args.root ws ws_new met.nodes.keys new.nodes.keys met.marks.items new.marks.items (map (λ t. t.side.node) way) known c.use_way.ensures.nodes uses
          (λ e h. subst (λ l. InFlow ws e ⊎ Has (map (λ t. t.side.node) l) e.to) c.as_slice-in-Walk.ensures.value (c.in_ok-augment-in-Walk.ensures.edges e h)),
    )

pub returns-in_ok-cut_of-in-Nowhere : goal.returns-in_ok-cut_of-in-Nowhere
returns-in_ok-cut_of-in-Nowhere g c =
    let n = g.N.LazyNet.shape c.args.net.now in
    let eq = g.N.Node.PartialEq.eq in
    let met = c.find_walk.new.memory.search.met in
    let way = c.find_walk.new.memory.way.items in
    cuts n eq c.args.root (map (λ w. w.items) c.args.walks.now.items)
    g.met.N.LazyNet.same_if_equal g.met.N.Node.Eq.laws.refl met.nodes.keys met.marks.items _ c.in_ok-cut_of-in-Nowhere.field-0.items
    c.requires.flow
    (subst (λ l. IsOutcome n (λ v. all_edges_to eq v (map (λ w. w.items) l)) c.args.root met.nodes.keys met.marks.items way Nowhere) c.as_slice.ensures.value
    (subst (IsOutcome n (λ v. all_edges_to eq v (map (λ w. w.items) c.as_slice.result.now)) c.args.root met.nodes.keys met.marks.items way) c.in-Nowhere.is c.in_ok-find_walk.ensures.outcome))
    (length-map c.args.walks.now.items (λ w. w.items))
    (c.in_ok-cut_of-in-Nowhere.ensures ∙ ap (λ l. all_first_unmet (is_far_met eq met.nodes.keys met.marks.items) (map (λ w. w.items) l)) c.as_slice-in-Nowhere.ensures.value)
