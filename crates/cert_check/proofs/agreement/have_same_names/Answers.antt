use Rattle.std.proofs.Common.{refl, sym, ◌∙◌, arith}
use Rattle.cert_check.proofs.AgreeLemmas.{same_by_places}
use Rattle.cert_check.proofs.agreement.have_same_names.Goals as goal

pub returns : goal.returns
returns c =
    let named = c.signals-s-end.ensures.sound.named in
    let named' = c.signals-sound.ensures.sound.named in
    let count = c.signals-s-end.ensures.count in (
      λ yes. same_by_places c.args.one.now.names c.args.other.now.names (named ∙ (c.requires ∙ sym named')) (λ i within. c.loop-s.invariant i (omega (arith, within, named, count, c.loop-s-test.false))),
      λ same. refl,
    )
