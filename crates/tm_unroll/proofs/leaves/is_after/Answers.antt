-- The table just before the place decides.
use Rattle.std.proofs.Common.{◌≢◌, ◌<◌, sym, subst}
use Rattle.std.specs.Bool.{Decides}
use Rattle.tm_unroll.specs.declared.node.Lut.{Lut}
use Rattle.tm_unroll.proofs.LookupLemmas.{after_is, less_decides}
use Rattle.tm_unroll.proofs.leaves.is_after.Goals as goal

pub returns : goal.returns
returns c =
    let some : c.args.place ≢ 0 = c.if-place-eq0.false in
    let less = less_decides c.lt.result _ c.args.gate c.lt.ensures in
    after_is c.args.luts.now c.args.place c.args.gate c.index-luts-place.result c.lt.result some c.requires c.index-luts-place.is
    (subst (λ (l : Lut). Decides c.lt.result (l.gate < c.args.gate)) (sym c.index-luts-place.is) less)
