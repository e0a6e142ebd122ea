use Rattle.std.proofs.Common.{sym, ◌∙◌}
use Rattle.cert_check.proofs.agreement.have_same_frame.Goals as goal

pub returns-then-are_same_clocks : goal.returns-then-are_same_clocks
returns-then-are_same_clocks c = (
  λ yes. record {
    model = sym c.model.ensures ∙ (c.is_same_name.ensures.0 c.if-not-is_same_name.false ∙ c.model-2.ensures);
    clock = sym c.clock.ensures ∙ (c.are_same_clocks.ensures.0 c.if-are_same_clocks.true ∙ c.clock-2.ensures);
    outputs = sym c.outputs.ensures ∙ (c.are_same_signals.ensures.0 yes ∙ c.outputs-then-are_same_clocks.ensures);
  },
  λ same. c.are_same_signals.ensures.1 (c.outputs.ensures ∙ (same.outputs ∙ sym c.outputs-then-are_same_clocks.ensures)),
)
