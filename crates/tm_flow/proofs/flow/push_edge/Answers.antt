use Rattle.std.proofs.Common.{◌≡◌, ◌++◌, sym, ap, ◌∙◌, arith}
use Rattle.tm_flow.specs.Lists.{At}
use Rattle.tm_flow.proofs.PlaceLemmas.{at_within, at_same, at_named}
use Rattle.tm_flow.proofs.ToLemmas.{edge_found}
use Rattle.tm_flow.proofs.flow.push_edge.Goals as goal

pub offset_bounds-walk-place : goal.offset_bounds-walk-place
offset_bounds-walk-place g c =
    let r = c.in-Some.ensures.found in omega (arith, at_within c.args.walk.now c.in-Some.place r.0 r.1)

pub bounds-walk-place : goal.bounds-walk-place
bounds-walk-place g c =
    let r = c.in-Some.ensures.found in omega (arith, at_within c.args.walk.now c.in-Some.place r.0 r.1)

pub returns-in_ok-push : goal.returns-in_ok-push
returns-in_ok-push g c =
    let r = c.in-Some.ensures.found in
    let here = c.index-walk-place.result in
    let at : At c.args.walk.now c.in-Some.place here =
    at_named c.args.walk.now c.in-Some.place here (at_within c.args.walk.now c.in-Some.place r.0 r.1) c.index-walk-place.is in
    let to : here.to ≡ c.args.node = ap (λ e. e.to) (at_same c.args.walk.now c.in-Some.place here r.0 at r.1) ∙ r.2 in
    c.in_ok-push.ensures.items
    ∙ ap (λ l. c.args.edges.now.items ++ l) (sym (edge_found (g.N.LazyNet.shape c.args.net.now) g.N.Node.PartialEq.eq g.met.N.LazyNet.same_if_equal g.met.N.Node.Eq.laws.refl
    (g.met.N.LazyNet.rank_falls c.args.net.now) c.args.walk.now c.requires.0 c.args.node c.in-Some.place here c.requires.1 at to))
