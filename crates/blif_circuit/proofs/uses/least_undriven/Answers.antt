-- one statement more
use Rattle.std.proofs.Common.{◌||◌, not, Bool, Option, Some, option_copied, bytes_eq, List, ℕ, sym, ap, ◌∙◌}
use Rattle.std.specs.List.{list_any}
use Rattle.blif_unit.specs.declared.unit.Stated.{Stated}
use Rattle.blif_unit.specs.Unit.{told_of, uses_told}
use Rattle.blif_circuit.specs.Circuit.{is_named, less_of}
use Rattle.blif_circuit.proofs.SignalFaults.{least-passes, least-fails}
use Rattle.blif_circuit.proofs.uses.least_undriven.Goals.{then-uses_undriven, else-uses_undriven}
use Rattle.blif_circuit.proofs.uses.least_undriven.Goals as goal

pub loop-stated-preserved : goal.loop-stated-preserved
loop-stated-preserved c =
    let p : Stated → Bool = λ (s : Stated). list_any (λ (n : List ℕ). not (list_any (bytes_eq n) c.args.signals.now || is_named (option_copied c.args.clock) n)) (uses_told (told_of s.what)) in
    elim c.if-uses_undriven.branch [
      | then-uses_undriven w ↦ w.found-is ∙ (ap (λ n. Some n) w.less_of.ensures ∙ (ap (λ (o : Option ℕ). Some (less_of c.stated-item.result.line o)) c.loop-stated.invariant
          ∙ sym (least-passes p c.args.body.now c.loop-stated.stated-index c.stated-item.result c.loop-stated-test.true c.stated-item.is (sym c.uses_undriven.ensures ∙ w.if-uses_undriven.true))))
      | else-uses_undriven w ↦ w.found-is ∙ (c.loop-stated.invariant
          ∙ sym (least-fails p c.args.body.now c.loop-stated.stated-index c.stated-item.result c.loop-stated-test.true c.stated-item.is (sym c.uses_undriven.ensures ∙ w.if-uses_undriven.false)))
    ]
