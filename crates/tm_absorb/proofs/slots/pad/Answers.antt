use Rattle.std.proofs.Common.{◌≡◌, ◌≤◌, ◌++◌, List, Option, None, ◌∷◌, [], vec_len, sym, ◌∙◌, subst, arith}
use Rattle.tm_unroll.specs.declared.node.Lut.{Lut}
use Rattle.tm_absorb.specs.Slots.{present, AreOwn}
use Rattle.tm_absorb.proofs.SlotLemmas.{own-pad, present-pad}
use Rattle.tm_absorb.proofs.slots.pad.Goals as goal

pub loop-slots-preserved : goal.loop-slots-preserved
loop-slots-preserved c =
    let pushed = c.in_ok-push.ensures.items in (
      omega (arith, c.in_ok-push.ensures.len, c.len.ensures),
      subst AreOwn (sym pushed) (own-pad c.loop-slots.slots.items c.loop-slots.invariant.1),
      subst (λ (slots : List (Option Lut)). present slots ≡ present c.args.slots.now.items) (sym pushed) (present-pad c.loop-slots.slots.items ∙ c.loop-slots.invariant.2),
    )
