use Rattle.std.proofs.Common.{◌≡◌, length, subst, arith}
use Rattle.tm_twins.proofs.ClassLemmas.{HaveBegun, begun_none, begun_next, begun_all}
use Rattle.tm_twins.proofs.classes.Classes.new.Goals as goal

pub loop-s-init : goal.loop-s-init
loop-s-init c = begun_none c.args.circuit.now.drives _ _ _ c.new-known.ensures.items c.new-heads.ensures.items c.new-firsts.ensures.items

pub loop-s-preserved : goal.loop-s-preserved
loop-s-preserved c =
    begun_next c.args.circuit.now.drives c.loop-s.known.items c.push.new.self.items c.loop-s.heads.items c.push-in-loop-s.new.self.items c.loop-s.firsts.items c.push-in-loop-s-2.new.self.items
    c.is_fed.result c.loop-s.s c.loop-s.invariant c.is_fed.ensures c.in_ok-push.ensures.items c.in_ok-push-2.ensures.items c.in_ok-push-3.ensures.items

pub returns : goal.returns
returns c =
    let all : c.loop-s.s ≡ length c.args.circuit.now.drives = omega (arith, c.loop-s-test.false, c.loop-s.auto.s-end, c.signals-s-end.ensures.count) in
    begun_all c.args.circuit.now.drives c.loop-s.known.items c.loop-s.heads.items c.loop-s.firsts.items
    (subst (λ n. HaveBegun c.args.circuit.now.drives c.loop-s.known.items c.loop-s.heads.items c.loop-s.firsts.items n) all c.loop-s.invariant)
