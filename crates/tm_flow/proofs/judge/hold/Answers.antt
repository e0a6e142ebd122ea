-- A set that adds the node lacked it, and one that does not add it had it.
use Rattle.std.proofs.Common.{sym, ◌∙◌}
use Rattle.tm_flow.proofs.JudgeLemmas.{held_or_new, takes_uncut}
use Rattle.tm_flow.proofs.judge.hold.Goals as goal

pub returns-then-not-may_cut : goal.returns-then-not-may_cut
returns-then-not-may_cut g c = takes_uncut (g.N.LazyNet.shape c.args.net.now) c.args.node c.args.held.now.keys (sym c.may_cut.ensures ∙ c.if-not-may_cut.true)

pub returns : goal.returns
returns g c =
    held_or_new g.N.Node.PartialEq.eq g.met.N.LazyNet.same_if_equal g.met.N.Node.Eq.laws.refl (g.N.LazyNet.shape c.args.net.now) c.args.node c.args.held.now.keys c.insert.new.self.keys
    (sym c.may_cut.ensures ∙ c.if-not-may_cut.false) c.in_ok-is_new.ensures.keys c.in_ok-is_new.is_new c.in_ok-is_new.ensures.added
