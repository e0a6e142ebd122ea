use Rattle.std.proofs.Common.{◌<◌, length, sym, ap, ◌∙◌, arith}
use borrow.Author.Tests.{ltb-true}
use Rattle.tm_flow.proofs.PlaceLemmas.{at_within}
use Rattle.tm_flow.proofs.FlowLemmas.{comes_to_cases}
use Rattle.tm_flow.proofs.flow.comes_to.Goals as goal

pub returns-then-place-walk : goal.returns-then-place-walk
returns-then-place-walk g c =
    comes_to_cases g.N.Node.PartialEq.eq g.met.N.LazyNet.same_if_equal g.met.N.Node.Eq.laws.refl c.args.walk.now c.args.place c.index-walk-place.result c.args.node c.eq.result
    (omega arith) c.index-walk-place.is (c.eq.ensures ∙ ap (λ e. g.N.Node.PartialEq.eq e.to c.args.node) (sym c.index-walk-place.is))

pub returns-else-place-walk : goal.returns-else-place-walk
returns-else-place-walk g c = (
  (λ yes. let lt : c.args.place < length c.args.walk.now = ltb-true c.args.place (length c.args.walk.now) yes in let none : ⊥ = omega arith in absurd none),
  (λ there. let lt : c.args.place < length c.args.walk.now = at_within c.args.walk.now c.args.place there.0 there.1 in let none : ⊥ = omega arith in absurd none),
)
