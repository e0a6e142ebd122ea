use Rattle.std.proofs.Common.{◌≡◌, length, map, ap, true, sym, ◌∙◌, arith}
use Rattle.tm_shorten.specs.Parts.{marked}
use Rattle.tm_shorten.proofs.PartLemmas.{length-marked, marked-all, joined-parts}
use Rattle.tm_shorten.proofs.shorter.shorten.Goals as goal

pub refutes-requires-clause-few : goal.refutes-requires-clause-few
refutes-requires-clause-few c =
    let kept : c.deref-3.result.now ≡ marked c.in_ok-marks.marks.items c.args.drops.items = cc (c.in_ok-kept.ensures.kept, c.deref-2.ensures.value, c.deref-3.ensures.value) in
    omega (arith, ap length kept, length-marked c.in_ok-marks.marks.items c.args.drops.items)

pub returns-then-enough-clause-refute : goal.returns-then-enough-clause-refute
returns-then-enough-clause-refute c =
    let kept : c.in_ok-kept.field-0.kept.items ≡ c.deref-3.result.now = cc in
    rw kept (c.in_ok-enough.ensures.0 c.if-enough.true)

pub returns-clause-refute : goal.returns-clause-refute
returns-clause-refute c =
    let sized : length c.in_ok-marks.marks.items ≡ length c.args.drops.items = cc (c.in_ok-marks.ensures) in
    let together = joined-parts c.in_ok-marks.marks.items c.args.drops.items sized in
    let same : c.in_ok-whole.whole.items ≡ c.args.drops.items = cc (c.in_ok-whole.ensures, c.in_ok-kept.ensures.kept, c.in_ok-kept.ensures.left) in
    rw same c.requires.refute

pub returns-clause-part : goal.returns-clause-part
returns-clause-part c =
    let sized : length c.in_ok-marks.marks.items ≡ length c.args.drops.items = cc (c.in_ok-marks.ensures) in
    let together = joined-parts c.in_ok-marks.marks.items c.args.drops.items sized in
    let same : c.in_ok-whole.whole.items ≡ c.args.drops.items = cc (c.in_ok-whole.ensures, c.in_ok-kept.ensures.kept, c.in_ok-kept.ensures.left) in
    record { marks = map (λ _. true) c.args.drops.items; is = same ∙ sym (marked-all c.args.drops.items) }
