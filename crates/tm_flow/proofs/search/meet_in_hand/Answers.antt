use Rattle.std.proofs.Common.{◌++◌, [], ◌∷◌, refl, sym, ◌∙◌, arith}
use Rattle.std.proofs.lemmas.List.{append-nil}
use Rattle.tm_flow.proofs.MarkLemmas.{written_in, marked_already, not_marked, marked_there, marked_stays, used_stays, marked_grown, marked_count, marked_even}
use Rattle.tm_flow.proofs.PlaceLemmas.{at_named, at_within}
use Rattle.tm_flow.proofs.SearchLemmas.{meets_none, meets_one, meets_wait}
use Rattle.tm_flow.proofs.search.meet_in_hand.Goals as goal

pub index-marks-requires : goal.index-marks-requires
index-marks-requires g c = omega (arith, at_within c.args.search.now.met.nodes.keys c.args.next.number c.args.next.side.node c.requires.number, c.requires.numbered.even)

pub index_mut-requires : goal.index_mut-requires
index_mut-requires g c = omega (arith, at_within c.args.search.now.met.nodes.keys c.args.next.number c.args.next.side.node c.requires.number, c.requires.numbered.even)

pub returns-then-has-clause-meets : goal.returns-then-has-clause-meets
returns-then-has-clause-meets g c =
    meets_wait (c.args.search.now.pending.items ++ []) (append-nil c.args.search.now.pending.items)
    (meets_none _ c.args.next.depth c.args.search.now.met.nodes.keys c.args.search.now.met.marks.items c.args.search.now.pending.items c.requires.numbered)

pub returns-then-has-clause-met : goal.returns-then-has-clause-met
returns-then-has-clause-met g c =
    marked_already c.args.search.now.met.nodes.keys c.args.search.now.met.marks.items c.requires.numbered c.args.next.number c.args.next.side c.index-marks.result.now c.requires.number
    (at_named c.args.search.now.met.marks.items c.args.next.number c.index-marks.result.now (omega (arith, at_within c.args.search.now.met.nodes.keys c.args.next.number c.args.next.side.node c.requires.number, c.requires.numbered.even)) c.index-marks.ensures) (sym c.has.ensures ∙ c.if-has.true)

pub returns-clause-meets : goal.returns-clause-meets
returns-clause-meets g c =
    let nodes = c.args.search.now.met.nodes.keys in
    let marks = c.args.search.now.met.marks.items in
    let w = c.args.next in
    let m = c.index-marks.result.now in
    let has = at_named marks w.number m (omega (arith, at_within nodes w.number w.side.node c.requires.number, c.requires.numbered.even)) c.index-marks.ensures in
    let written = written_in marks w.number w.side.is_far m c.index_mut.result.now c.mark.new.self has c.index_mut.ensures.value c.mark.ensures in
    let unmarked = sym c.has.ensures ∙ c.if-has.false in
    meets_one nodes marks _ c.args.search.now.pending.items (c.args.search.now.pending.items ++ w ∷ []) w
    (marked_even nodes marks c.requires.numbered w.number w.side m c.requires.number has _ written) c.requires.number
    (marked_there nodes marks c.requires.numbered w.number w.side m c.requires.number has _ written)
    (not_marked nodes marks c.requires.numbered w.number w.side m c.requires.number has unmarked)
    (marked_grown nodes marks c.requires.numbered w.number w.side m c.requires.number has _ written)
    (marked_stays nodes marks c.requires.numbered w.number w.side m c.requires.number has _ written)
    (used_stays nodes marks c.requires.numbered w.number w.side m c.requires.number has _ written)
    (marked_count nodes marks c.requires.numbered w.number w.side m c.requires.number has _ written unmarked)
    refl

pub returns-clause-met : goal.returns-clause-met
returns-clause-met g c =
    let nodes = c.args.search.now.met.nodes.keys in
    let marks = c.args.search.now.met.marks.items in
    let w = c.args.next in
    let m = c.index-marks.result.now in
    let has = at_named marks w.number m (omega (arith, at_within nodes w.number w.side.node c.requires.number, c.requires.numbered.even)) c.index-marks.ensures in
    marked_there nodes marks c.requires.numbered w.number w.side m c.requires.number has _
    (written_in marks w.number w.side.is_far m c.index_mut.result.now c.mark.new.self has c.index_mut.ensures.value c.mark.ensures)
