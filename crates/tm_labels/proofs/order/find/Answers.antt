-- One step more.
use Rattle.std.proofs.Common.{◌<◌, ℕ, length, set, sym, subst, arith}
use Rattle.tm_labels.specs.Ways.{AreStepsOn}
use Rattle.tm_labels.proofs.WayLemmas.{steps_set}
use Rattle.tm_labels.proofs.order.find.Goals as goal

pub returns-in_ok-push : goal.returns-in_ok-push
returns-in_ok-push c circuit before step =
    let towards = c.args.towards.now in
    let within : c.gate.inside.0 < length towards = omega (arith, c.if-place-towards.true) in
    let gate = c.gate.view_is in
    subst (λ (g : ℕ). AreStepsOn circuit (set towards g c.to.inside.0)) (sym gate)
    (subst (λ (t : ℕ). AreStepsOn circuit (set towards c.args.gate t)) (sym c.to.view_is)
    (steps_set circuit towards c.args.gate c.args.to (omega (arith, within, gate)) before step))
