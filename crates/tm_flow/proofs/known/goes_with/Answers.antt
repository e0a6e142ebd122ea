use Rattle.std.proofs.Common.{◌≡◌, true, [], map, subst, sym, arith}
use Rattle.std.proofs.lemmas.List.{take_all}
use Rattle.tm_flow.specs.Lists.{Has}
use Rattle.tm_flow.specs.Flows.{all_edges_to}
use Rattle.tm_flow.proofs.UseLemmas.{each_more}
use Rattle.tm_flow.proofs.known.goes_with.Goals as goal

pub loop-edge-init : goal.loop-edge-init
loop-edge-init g c = λ e h. absurd h

pub loop-edge-preserved : goal.loop-edge-preserved
loop-edge-preserved g c =
    each_more (λ e. (g.N.LazyNet.shape c.args.net.now).may_cut e.to ≡ true → all_edges_to g.N.Node.PartialEq.eq e.to (map (λ w. w.items) c.args.walks.now) ≡ [])
    c.args.walk.now c.loop-edge.edge-index c.edge-item.result (omega arith) c.edge-item.is c.loop-edge.invariant (c.is_taken.ensures c.if-is_taken.false)

pub returns : goal.returns
returns g c = λ yes e h. c.loop-edge.invariant e (subst (λ l. Has l e) (sym (take_all c.loop-edge.edge-index c.args.walk.now (omega arith))) h)
