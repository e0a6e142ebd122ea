-- The other leaves and those in its place are too many, or they are the replacement.
use Rattle.std.proofs.Common.{List, subst, Some}
use Rattle.std.proofs.lemmas.Bool.{MatchBool-at_true, MatchBool-at_false}
use Rattle.tm_unroll.specs.declared.node.Node.{Node}
use Rattle.tm_unroll.specs.Replaced.{Joins, JoinsBeyond, IsTaken}
use Rattle.tm_unroll.proofs.AddLemmas.{replaced, beyond_first, beyond_second}
use Rattle.tm_unroll.proofs.replace.replace_leaf.Goals as goal

pub returns-then-not-branch-clause-answer : goal.returns-then-not-branch-clause-answer
returns-then-not-branch-clause-answer c =
    beyond_first c.args.k c.args.leaves.now c.args.leaf c.args.others.now
    (subst (λ (l : List Node). JoinsBeyond (IsTaken (Some c.args.leaf) c.args.leaves.now) c.args.k l) c.new-new.ensures.items (MatchBool-at_false _ _ c.if-not-branch.true c.in_ok-add_nodes.ensures.all))

pub returns-then-not-branch-2-clause-answer : goal.returns-then-not-branch-2-clause-answer
returns-then-not-branch-2-clause-answer c =
    beyond_second c.args.k c.args.leaves.now c.args.leaf c.args.others.now c.add_nodes.new.ascending.items
    (subst (λ (l : List Node). Joins (IsTaken (Some c.args.leaf) c.args.leaves.now) c.args.k l c.add_nodes.new.ascending.items) c.new-new.ensures.items (MatchBool-at_true _ _ c.if-not-branch.false c.in_ok-add_nodes.ensures.all))
    (MatchBool-at_false _ _ c.if-not-branch-2.true c.in_ok-add_nodes-2.ensures.all)

pub returns-clause-answer : goal.returns-clause-answer
returns-clause-answer c =
    replaced c.args.k c.args.leaves.now c.args.leaf c.args.others.now c.add_nodes.new.ascending.items c.add_nodes-2.new.ascending.items
    (subst (λ (l : List Node). Joins (IsTaken (Some c.args.leaf) c.args.leaves.now) c.args.k l c.add_nodes.new.ascending.items) c.new-new.ensures.items (MatchBool-at_true _ _ c.if-not-branch.false c.in_ok-add_nodes.ensures.all))
    (MatchBool-at_true _ _ c.if-not-branch-2.false c.in_ok-add_nodes-2.ensures.all)
