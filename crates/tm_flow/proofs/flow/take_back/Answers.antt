use Rattle.std.proofs.Common.{ap, sym, subst, inl, inr, refl, map, length, true≢false, ◌∙◌, arith}
use Rattle.tm_flow.specs.Lists.{Each}
use Rattle.tm_flow.specs.Flows.{Leads, IsOnWalk, InFlow}
use Rattle.tm_flow.proofs.FlowLemmas.{hand_popped, hand_lacks}
use Rattle.tm_flow.proofs.flow.take_back.Goals as goal

pub returns-then-is_at : goal.returns-then-is_at
returns-then-is_at g c =
    inl (
      hand_popped c.args.rest.now.items c.truncate.new.self.items c.as_slice.result.now c.saturating_sub-first.result c.args.edge
          c.as_slice.ensures.value (c.is_at.ensures.0 c.if-is_at.true) (omega (arith, ap length c.as_slice.ensures.value)) c.truncate.ensures.items,
      refl,
    )

pub find_edge-requires : goal.find_edge-requires
find_edge-requires g c =
    subst (λ l. Each (λ w. (x : g.row.N-Node.Denot) × Leads (g.N.LazyNet.shape c.args.net.now) x w) (map (λ w. w.items) l)) (sym c.as_slice-2.ensures.value) c.requires.walks

pub exchange_at-requires : goal.exchange_at-requires
exchange_at-requires g c =
    (c.args.edge, subst (λ l. IsOnWalk (map (λ w. w.items) l) c.in-Some.which c.in-Some.place c.args.edge) c.as_slice-2.ensures.value c.in-Some.ensures.found)

pub unreachable-requires : goal.unreachable-requires
unreachable-requires g c =
    elim c.requires.there [
      | inl first ↦
          hand_lacks c.args.rest.now.items c.as_slice.result.now c.saturating_sub-first.result c.args.edge c.as_slice.ensures.value
          (λ at. true≢false (sym (c.is_at.ensures.1 at) ∙ c.if-is_at.false)) (omega (arith, ap length c.as_slice.ensures.value)) first
      | inr on ↦ c.in-None.ensures.absent (subst (λ l. InFlow (map (λ w. w.items) l) c.args.edge) (sym c.as_slice-2.ensures.value) on)
    ]
