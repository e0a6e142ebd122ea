use Rattle.std.proofs.Common.{ℕ, List, [], ◌∷◌, ◌++◌, ap₂, sym, ◌∙◌}
use Rattle.aiger_read.proofs.StepLemmas.{pins_more}
use Rattle.aiger_read.proofs.gates.pins_for.Goals as goal

pub loop-literal-preserved : goal.loop-literal-preserved
loop-literal-preserved c =
    c.in_ok-push.ensures.ok ∙ ap₂ (λ (pins : List ℕ) (pin : ℕ). pins ++ pin ∷ []) c.loop-literal.invariant c.signal.ensures
    ∙ sym (pins_more c.args.variables.now c.args.literals.now c.loop-literal.literal-index 0 c.loop-literal-test.true)
