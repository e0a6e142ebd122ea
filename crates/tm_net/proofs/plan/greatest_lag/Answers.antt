-- one lag more
use Rattle.std.proofs.Common.{◌≤◌, List, take, ap, subst, arith}
use Rattle.std.specs.Prelude.{All}
use Rattle.std.proofs.lemmas.List.{take_all}
use Rattle.std.proofs.lemmas.List.Elements.{All-more, All-weaker}
use Rattle.tm_unroll.specs.declared.node.Lut.{Lut}
use Rattle.tm_net.proofs.plan.greatest_lag.Goals as goal

pub loop-lut-preserved : goal.loop-lut-preserved
loop-lut-preserved c =
    let i = c.loop-lut.lut-index in
    let luts = c.args.luts.now in
    let is = c.max-greatest.ensures in
    let low = c.requires i c.lut-item.result c.loop-lut-test.true in
    let own = ap (λ (l : Lut). l.lag) c.lut-item.is in
    let near = c.loop-lut.invariant.near in
    record {
      near = omega (arith, is, low, own, near);
      greatest = All-more (λ (l : Lut). l.lag ≤ c.max-greatest.result) luts i c.lut-item.result c.loop-lut-test.true
          (All-weaker (λ (l : Lut). l.lag ≤ c.loop-lut.greatest) (λ (l : Lut). l.lag ≤ c.max-greatest.result) (λ l less. omega (arith, less, is)) (take i luts) c.loop-lut.invariant.greatest)
          (omega (arith, is, own));
    }

pub returns-clause-greatest : goal.returns-clause-greatest
returns-clause-greatest c =
    subst (λ (ls : List Lut). All (λ (l : Lut). l.lag ≤ c.loop-lut.greatest) ls) (take_all c.loop-lut.lut-index c.args.luts.now c.loop-lut-test.false) c.loop-lut.invariant.greatest
