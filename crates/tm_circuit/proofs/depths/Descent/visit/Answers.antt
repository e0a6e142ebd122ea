-- The visit begins at its root, goes on by turns, and ends where the trail is empty.
use Rattle.std.proofs.Common.{◌<◌, map, length, sym, ◌∙◌, subst, arith}
use Rattle.std.proofs.lemmas.List.{length-map}
use Rattle.tm_circuit.specs.Plain.{drive_of}
use Rattle.tm_circuit.specs.declared.depths.Descent.{Descent}
use Rattle.tm_circuit.proofs.DescentLemmas.{IsVisiting, root_read}
use Rattle.tm_circuit.proofs.DescentEnds.{begins_opened, begins_met}
use Rattle.tm_circuit.proofs.depths.Descent.visit.Goals as goal
use Rattle.tm_circuit.proofs.depths.Descent.visit.Goals.{in-Fresh+in_ok-open, in_default}

pub loop-gate-init : goal.loop-gate-init
loop-gate-init c =
    let within : c.args.root < length c.args.self.now.marks.items = omega (arith, c.requires.root, c.requires.rest.descends.marks_sized, length-map c.args.drivers.now drive_of) in
    let read = root_read c.args.self.now.marks.items _ c.args.root _ within c.root.view_is c.index.ensures in
    let P : Descent → Type 0 = λ d. IsVisiting (map drive_of c.args.drivers.now) c.args.self.now d c.args.root in
    elim c.match-index.branch [
      | in-Fresh+in_ok-open w ↦ subst P (sym w.self-is) (begins_opened _ c.args.self.now _ c.args.root c.requires.rest (read ∙ w.in-Fresh.is) w.in_ok-open.ensures)
      | in_default w ↦ subst P (sym w.self-is) (begins_met _ c.args.self.now c.args.root c.requires.rest (λ e. w.in_default.not-Fresh (sym read ∙ e)))
    ]
