-- A turn: the next node is read, and held if it may be cut.
use Rattle.std.proofs.Common.{◌+◌, drop, get_or, refl, ap, ◌∙◌}
use Rattle.std.proofs.lemmas.Bool.{MatchBool-at_true, MatchBool-at_false}
use Rattle.tm_flow.proofs.PlaceLemmas.{drop_more}
use Rattle.tm_flow.proofs.JudgeLemmas.{holding_more, holding_clashes}
use Rattle.tm_flow.proofs.judge.hold_walk.Goals as goal

pub returns-then-branch : goal.returns-then-branch
returns-then-branch g c =
    let at = c.loop-digit.digit-index in
    holding_clashes (g.N.LazyNet.shape c.args.net.now) (g.met.N.LazyNet.rank_falls c.args.net.now) c.args.root c.args.walk.now c.args.held.now.keys c.loop-digit.node (drop at c.args.walk.now)
    c.loop-digit.held.keys c.loop-digit.invariant (get_or c.args.walk.now at 0) (drop (at + 1) c.args.walk.now) (drop_more c.args.walk.now at 0 (get_or c.args.walk.now at 0) c.loop-digit-test.true refl)
    c.read-node.result (c.read-node.ensures ∙ ap ((g.N.LazyNet.shape c.args.net.now).read c.loop-digit.node) c.from.ensures) (MatchBool-at_true _ _ c.if-branch.true c.in_ok-hold.ensures)

pub loop-digit-preserved : goal.loop-digit-preserved
loop-digit-preserved g c =
    let at = c.loop-digit.digit-index in
    holding_more (g.N.LazyNet.shape c.args.net.now) (g.met.N.LazyNet.rank_falls c.args.net.now) c.args.root c.args.walk.now c.args.held.now.keys c.loop-digit.node (drop at c.args.walk.now)
    c.loop-digit.held.keys c.loop-digit.invariant (get_or c.args.walk.now at 0) (drop (at + 1) c.args.walk.now) (drop_more c.args.walk.now at 0 (get_or c.args.walk.now at 0) c.loop-digit-test.true refl)
    c.read-node.result (c.read-node.ensures ∙ ap ((g.N.LazyNet.shape c.args.net.now).read c.loop-digit.node) c.from.ensures) c.hold.new.held.keys (MatchBool-at_false _ _ c.if-branch.false c.in_ok-hold.ensures)
