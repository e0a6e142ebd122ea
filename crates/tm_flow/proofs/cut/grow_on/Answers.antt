use Rattle.std.proofs.Common.{◌≡◌, ◌∙◌, subst, sym, ap, map, length, get_or, [], ◌∷◌, arith}
use Rattle.std.proofs.lemmas.List.{length-map}
use Rattle.tm_flow.specs.Flows.{IsFlow, indices_of}
use Rattle.tm_flow.proofs.FlowLemmas.{walk_is}
use Rattle.tm_flow.proofs.WalkLemmas.{free_barrier}
use Rattle.tm_flow.proofs.cut.grow_on.Goals as goal

pub loop-round-init : goal.loop-round-init
loop-round-init g c = record {
  flow = c.requires.begun.flow;
  known = c.requires.begun.known;
  len = omega arith;
}

pub returns-in-Some : goal.returns-in-Some
returns-in-Some g c =
    let ws = map (λ w. w.items) c.as_slice.result.now in
    let free = c.in-Some.ensures.free in
    let is = walk_is (λ w. w.items) c.as_slice.result.now c.in-Some.free c.index.result.now free.0 c.as_slice-in-Some.result.now free.1
    (subst (λ l. c.index.result.now ≡ get_or l c.in-Some.free c.index.result.now) (sym c.as_slice.ensures.value) c.index.ensures) c.as_slice-in-Some.ensures.value in
    free_barrier (g.N.LazyNet.shape c.args.net.now) g.N.Node.PartialEq.eq g.met.N.LazyNet.same_if_equal g.met.N.Node.Eq.laws.refl c.args.root c.args.k ws free.0 c.in-Some.free _
    (subst (λ l. IsFlow (g.N.LazyNet.shape c.args.net.now) g.N.Node.PartialEq.eq c.args.root (map (λ w. w.items) l)) (sym c.as_slice.ensures.value) c.loop-round.invariant.flow)
    free.1 free.2 (c.in_ok-only.ensures ∙ ap (λ w. indices_of w ∷ []) (sym is))

pub returns : goal.returns
returns g c =
    let known = length-map c.args.known.items (λ w. w.items) in
    let few = c.requires.begun.few in
    c.in_ok-barrier.ensures c.args.root c.args.k
    (subst (λ l. IsFlow (g.N.LazyNet.shape c.args.net.now) g.N.Node.PartialEq.eq c.args.root (map (λ w. w.items) l)) (sym c.as_slice-2.ensures.value) c.loop-round.invariant.flow)
    (ap length c.as_slice-2.ensures.value ∙ c.loop-round.invariant.len ∙ omega arith)
