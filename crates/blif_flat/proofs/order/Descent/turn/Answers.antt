-- The newest model is finished where those that it places are done, and else its next one is opened or closes a circle.
use Rattle.std.proofs.Common.{◌++◌, ◌∷◌, [], map, Vec, ℕ, Global, List, get_or, sym, ap, ◌∙◌}
use Rattle.blif_flat.proofs.DescentLemmas.{placed_at, placed_marked, place_at, mark_read, fresh-left, closed_circle, finished_turn, opened_turn, mark_default}
use Rattle.blif_flat.proofs.order.Descent.turn.Goals as goal

abbrev items_of : Vec ℕ Global → List ℕ
items_of v = v.items

pub waiting_place-requires : goal.waiting_place-requires
waiting_place-requires c =
    let placed = placed_at items_of c.args.graph.now c.args.model c.index-graph-model.result _ c.requires.descends.chain.0 c.index-graph-model.is c.as_slice-placed.ensures.value in
    placed_marked (map items_of c.args.graph.now) c.args.self.now.marks.items _ c.args.model _ c.requires.graph c.requires.descends.sized c.deref.ensures.value placed

pub returns-in-Open : goal.returns-in-Open
returns-in-Open c =
    let placed = placed_at items_of c.args.graph.now c.args.model c.index-graph-model.result _ c.requires.descends.chain.0 c.index-graph-model.is c.as_slice-placed.ensures.value in
    let next = get_or c.as_slice-placed.result.now c.in-Some.place 0 in
    let read = mark_read c.args.self.now.marks.items _ c.as_slice-placed.result.now _ next _ c.deref.ensures.value c.in-Some.ensures.0 c.in-Some.ensures.2 (sym (mark_default c.as_slice-placed.result.now c.in-Some.place c.in-Some.ensures.0)) c.index.ensures in
    closed_circle (map items_of c.args.graph.now) _ _ (record { model = c.args.model; place = c.args.from }) _ next c.requires.descends
    (place_at _ c.args.model _ _ placed c.in-Some.ensures.0) (read.1 ∙ c.in-Open.is)

pub returns-in_ok-finish-in-None : goal.returns-in_ok-finish-in-None
returns-in_ok-finish-in-None c =
    let placed = placed_at items_of c.args.graph.now c.args.model c.index-graph-model.result _ c.requires.descends.chain.0 c.index-graph-model.is c.as_slice-placed.ensures.value in
    finished_turn _ c.args.self.now c.finish.new.self (record { model = c.args.model; place = c.args.from }) _ _ c.requires.descends (λ p. c.requires.graph c.args.model p) placed c.deref.ensures.value
    c.in-None.ensures c.in_ok-finish-in-None.ensures

pub returns-in_ok-open-in-Some : goal.returns-in_ok-open-in-Some
returns-in_ok-open-in-Some c =
    let placed = placed_at items_of c.args.graph.now c.args.model c.index-graph-model.result _ c.requires.descends.chain.0 c.index-graph-model.is c.as_slice-placed.ensures.value in
    let next = get_or c.as_slice-placed.result.now c.in-Some.place 0 in
    let here = sym (mark_default c.as_slice-placed.result.now c.in-Some.place c.in-Some.ensures.0) in
    let read = mark_read c.args.self.now.marks.items _ c.as_slice-placed.result.now _ next _ c.deref.ensures.value c.in-Some.ensures.0 c.in-Some.ensures.2 here c.index.ensures in
    let fresh = fresh-left _ read.0 (λ open'. c.in_default.not-Open (sym read.1 ∙ open')) in
    let step = c.in_ok-open-in-Some.ensures in
    opened_turn _ c.args.self.now c.open.new.self (record { model = c.args.model; place = c.args.from }) _ _ _ next c.requires.descends placed c.deref.ensures.value
    c.in-Some.ensures.0 here c.in-Some.ensures.1 fresh step.marks step.order
    (step.trail ∙ ap (λ xs. xs ++ record { model = next; place = 0 } ∷ []) c.in_ok-push-in-Some.ensures.items)
