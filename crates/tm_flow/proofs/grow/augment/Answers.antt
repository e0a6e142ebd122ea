use Rattle.std.proofs.Common.{◌≡◌, ◌++◌, ◌-◌, ◌<◌, [], ◌∷◌, length, map, reverse, inl, inr, refl, sym, ap, subst, ◌∙◌, slice_index_or, arith}
use Rattle.std.proofs.lemmas.List.{map-append, length-map}
use Rattle.tm_flow.specs.Flows.{InFlow, IsFlow}
use Rattle.tm_flow.specs.Lists.{Has, At}
use Rattle.tm_flow.specs.Searches.{sides}
use Rattle.tm_flow.proofs.PlaceLemmas.{at_within, at_has, at_image, at_get_or, at_named}
use Rattle.tm_flow.proofs.SearchLemmas.{length-sides, at_side}
use Rattle.tm_flow.proofs.Augment.{Unwinds, unwinds_first, unwinds_on, unwinds_last, can_undo, walks_lead, undone_length, undone_edges, in_hand_too}
use Rattle.tm_flow.proofs.grow.augment.Goals as goal

pub loop-at-init : goal.loop-at-init
loop-at-init g c = record {
  unwinds = λ root can.
      let ws = map (λ w. w.items) c.args.walks.now.items in
      subst (λ k. Unwinds (g.N.LazyNet.shape c.args.net.now) g.N.Node.PartialEq.eq g.met.N.LazyNet.same_if_equal root c.args.way.now k ws (reverse c.in_ok-rest.rest.items)) (sym c.saturating_sub-at.ensures)
      (subst (Unwinds (g.N.LazyNet.shape c.args.net.now) g.N.Node.PartialEq.eq g.met.N.LazyNet.same_if_equal root c.args.way.now (length c.args.way.now - 1) ws) (sym (ap reverse c.in_ok-rest.ensures.items))
      (unwinds_first (g.N.LazyNet.shape c.args.net.now) g.N.Node.PartialEq.eq g.met.N.LazyNet.same_if_equal root ws c.args.way.now can));
  comes = λ e h. elim h [ inl on ↦ absurd (subst (λ l. Has (reverse l) e) c.in_ok-rest.ensures.items on) | inr old ↦ inl old ];
  len = refl;
}

pub offset_bounds-way-at : goal.offset_bounds-way-at
offset_bounds-way-at g c =
    let w = c.loop-at.invariant.unwinds c.requires.0 c.requires.1 in
    omega (arith, at_within (sides c.args.way.now) c.loop-at.at w.here w.place, length-sides c.args.way.now)

pub bounds-way-at : goal.bounds-way-at
bounds-way-at g c =
    let w = c.loop-at.invariant.unwinds c.requires.0 c.requires.1 in
    omega (arith, at_within (sides c.args.way.now) c.loop-at.at w.here w.place, length-sides c.args.way.now)

pub offset_bounds-way-at-in-loop-at : goal.offset_bounds-way-at-in-loop-at
offset_bounds-way-at-in-loop-at g c =
    let w = c.loop-at.invariant.unwinds c.requires.0 c.requires.1 in
    omega (arith, at_within (sides c.args.way.now) c.loop-at.at w.here w.place, length-sides c.args.way.now)

pub bounds-way-at-in-loop-at : goal.bounds-way-at-in-loop-at
bounds-way-at-in-loop-at g c =
    let w = c.loop-at.invariant.unwinds c.requires.0 c.requires.1 in
    omega (arith, at_within (sides c.args.way.now) c.loop-at.at w.here w.place, length-sides c.args.way.now)

pub bounds-way-at-in-loop-at-2 : goal.bounds-way-at-in-loop-at-2
bounds-way-at-in-loop-at-2 g c =
    let w = c.loop-at.invariant.unwinds c.requires.0 c.requires.1 in
    omega (arith, at_within (sides c.args.way.now) c.loop-at.at w.here w.place, length-sides c.args.way.now)

pub undo-requires-clause-walks : goal.undo-requires-clause-walks
undo-requires-clause-walks g c =
    walks_lead (g.N.LazyNet.shape c.args.net.now) g.N.Node.PartialEq.eq g.met.N.LazyNet.same_if_equal c.requires.0 _ c.args.way.now c.requires.1.way c.loop-at.at _ _
    (c.loop-at.invariant.unwinds c.requires.0 c.requires.1)

pub undo-requires-clause-step : goal.undo-requires-clause-step
undo-requires-clause-step g c =
    let ts = c.args.way.now in
    let w = c.loop-at.invariant.unwinds c.requires.0 c.requires.1 in
    let lt : c.loop-at.at < length ts = omega (arith, at_within (sides ts) c.loop-at.at w.here w.place, length-sides ts) in
    let lt1 : c.loop-at.at - 1 < length ts = omega arith in
    let here : At ts c.loop-at.at c.index-way-at.result = at_named ts c.loop-at.at c.index-way-at.result lt c.index-way-at.is in
    can_undo (g.N.LazyNet.shape c.args.net.now) g.N.Node.PartialEq.eq g.met.N.LazyNet.same_if_equal c.requires.0 _ ts c.requires.1.way
    (g.met.N.LazyNet.rank_falls c.args.net.now) c.loop-at.at c.index-way-at.result (slice_index_or ts (c.loop-at.at - 1) c.index-way-at-in-loop-at.result).side _ _
    here (at_side ts (c.loop-at.at - 1) _ (at_get_or ts (c.loop-at.at - 1) c.index-way-at-in-loop-at.result lt1)) (omega arith) w

pub loop-at-preserved : goal.loop-at-preserved
loop-at-preserved g c =
    let ts = c.args.way.now in
    let w0 = c.loop-at.invariant.unwinds c.requires.0 c.requires.1 in
    let lt : c.loop-at.at < length ts = omega (arith, at_within (sides ts) c.loop-at.at w0.here w0.place, length-sides ts) in
    let lt1 : c.loop-at.at - 1 < length ts = omega arith in
    let here : At ts c.loop-at.at c.index-way-at.result = at_named ts c.loop-at.at c.index-way-at.result lt c.index-way-at.is in
    let before : At (sides ts) (c.loop-at.at - 1) (slice_index_or ts (c.loop-at.at - 1) c.index-way-at-in-loop-at.result).side =
    at_side ts (c.loop-at.at - 1) _ (at_get_or ts (c.loop-at.at - 1) c.index-way-at-in-loop-at.result lt1) in
    record {
      unwinds = λ root can.
          unwinds_on (g.N.LazyNet.shape c.args.net.now) g.N.Node.PartialEq.eq g.met.N.LazyNet.same_if_equal root _ ts can.way c.loop-at.at c.index-way-at.result
          (slice_index_or ts (c.loop-at.at - 1) c.index-way-at-in-loop-at.result).side _ _ _ _
          here before (omega arith) c.in_ok-undo.ensures (c.loop-at.invariant.unwinds root can);
      comes = λ e h.
          elim (undone_edges (slice_index_or ts (c.loop-at.at - 1) c.index-way-at-in-loop-at.result).side c.index-way-at.result.step c.index-way-at.result.side _ _ _ _ c.in_ok-undo.ensures e h) [
            | inl before_it ↦ c.loop-at.invariant.comes e before_it
            | inr is ↦ inr (subst (Has (map (λ t. t.side.node) ts)) is (at_has (map (λ t. t.side.node) ts) c.loop-at.at c.index-way-at.result.side.node
                (at_image (λ t. t.side.node) ts c.loop-at.at c.index-way-at.result here)))
          ];
      len =
          sym (length-map c.undo.new.walks.items (λ w. w.items))
          ∙ undone_length (slice_index_or ts (c.loop-at.at - 1) c.index-way-at-in-loop-at.result).side c.index-way-at.result.step c.index-way-at.result.side _ _ _ _ c.in_ok-undo.ensures
          ∙ length-map c.loop-at.walks.items (λ w. w.items) ∙ c.loop-at.invariant.len;
    }

pub returns-clause-flow : goal.returns-clause-flow
returns-clause-flow g c root can =
    let n = g.N.LazyNet.shape c.args.net.now in
    let eq = g.N.Node.PartialEq.eq in
    let ts = c.args.way.now in
    let ws = map (λ w. w.items) c.loop-at.walks.items in
    let zeroth : c.loop-at.at ≡ 0 = omega arith in
    let at_root = subst (λ k. Unwinds n eq g.met.N.LazyNet.same_if_equal root ts k ws (reverse c.loop-at.rest.items)) zeroth (c.loop-at.invariant.unwinds root can) in
    let grown : IsFlow n eq root (ws ++ reverse c.loop-at.rest.items ∷ []) = unwinds_last n eq g.met.N.LazyNet.same_if_equal root _ ts can.way ws (reverse c.loop-at.rest.items) at_root in
    subst (IsFlow n eq root) (sym (ap (map (λ w. w.items)) c.in_ok-push.ensures.items ∙ map-append (λ w. w.items) c.loop-at.walks.items (c.reverse.new.self ∷ []) ∙ ap (λ l. ws ++ l ∷ []) c.reverse.ensures.items)) grown

pub returns-clause-edges : goal.returns-clause-edges
returns-clause-edges g c e h =
    let ws = map (λ w. w.items) c.loop-at.walks.items in
    c.loop-at.invariant.comes e (in_hand_too ws (reverse c.loop-at.rest.items) e
    (subst (λ l. InFlow l e) (ap (map (λ w. w.items)) c.in_ok-push.ensures.items ∙ map-append (λ w. w.items) c.loop-at.walks.items (c.reverse.new.self ∷ []) ∙ ap (λ l. ws ++ l ∷ []) c.reverse.ensures.items) h))
