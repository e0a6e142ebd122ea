use Rattle.std.proofs.Common.{eqb, ap, sym, ◌∙◌, w8}
use Rattle.std.proofs.lemmas.Nat.Bits.{bit_at_set_same, bit_at_set_other, bit_at_clear_same, bit_at_clear_other}
use Rattle.tm_init.proofs.bits.with_bit.Goals as goal

pub returns-then-value-clause-same : goal.returns-then-value-clause-same
returns-then-value-clause-same c =
    ap (λ n. eqb n 1) (bit_at_set_same w8 c.args.byte c.args.place c.requires) ∙ sym c.if-value.true

pub returns-then-value-clause-others : goal.returns-then-value-clause-others
returns-then-value-clause-others c other below apart =
    bit_at_set_other w8 c.args.byte c.args.place c.requires other apart

pub returns-else-value-clause-same : goal.returns-else-value-clause-same
returns-else-value-clause-same c =
    ap (λ n. eqb n 1) (bit_at_clear_same w8 c.args.byte c.args.place c.requires) ∙ sym c.if-value.false

pub returns-else-value-clause-others : goal.returns-else-value-clause-others
returns-else-value-clause-others c other below apart =
    bit_at_clear_other w8 c.args.byte c.args.place c.requires other below apart
