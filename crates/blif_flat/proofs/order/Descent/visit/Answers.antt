-- The visit begins at its root, goes on by turns, and ends where the trail is empty.
use Rattle.std.proofs.Common.{◌<◌, map, length, sym, ◌∙◌, subst, arith, Vec, ℕ, Global, List}
use Rattle.std.proofs.lemmas.List.{length-map, get_or_read}
use Rattle.blif_flat.specs.declared.order.Descent.{Descent}
use Rattle.blif_flat.specs.declared.order.Mark.TheVariants.{Done}
use Rattle.blif_flat.proofs.DescentLemmas.{IsVisiting}
use Rattle.blif_flat.proofs.DescentEnds.{begins_opened, begins_met}
use Rattle.blif_flat.proofs.order.Descent.visit.Goals as goal
use Rattle.blif_flat.proofs.order.Descent.visit.Goals.{in-Fresh+in_ok-open, in_default}

abbrev items_of : Vec ℕ Global → List ℕ
items_of v = v.items

pub loop-model-init : goal.loop-model-init
loop-model-init c =
    let within : c.args.root < length c.args.self.now.marks.items = omega (arith, c.requires.root, c.requires.rest.descends.sized, length-map c.args.graph.now items_of) in
    let read = get_or_read c.args.self.now.marks.items c.args.root _ within c.index.ensures Done in
    let P : Descent → Type 0 = λ d. IsVisiting (map items_of c.args.graph.now) c.args.self.now d c.args.root in
    elim c.match-index.branch [
      | in-Fresh+in_ok-open w ↦ subst P (sym w.self-is) (begins_opened _ c.args.self.now _ c.args.root c.requires.rest (sym read ∙ w.in-Fresh.is) w.in_ok-open.ensures)
      | in_default w ↦ subst P (sym w.self-is) (begins_met _ c.args.self.now c.args.root c.requires.rest (λ e. w.in_default.not-Fresh (read ∙ e)))
    ]
