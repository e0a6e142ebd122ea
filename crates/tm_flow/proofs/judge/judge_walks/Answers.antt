-- Each fault keeps walks from being a barrier, and walks with none are one.
use Rattle.std.proofs.Common.{inl, inr, true≢false, refl, sym, ◌∙◌}
use Rattle.std.proofs.lemmas.Bool.{MatchBool-at_true, MatchBool-at_false, false≢true}
use Rattle.std.proofs.lemmas.List.{length-map}
use Rattle.tm_flow.specs.Lists.{lists_in}
use Rattle.tm_flow.specs.Judges.{AreEnough}
use Rattle.tm_flow.proofs.JudgeLemmas.{barrier, no_walk, no_share}
use Rattle.tm_flow.proofs.judge.judge_walks.Goals as goal
use Rattle.tm_flow.proofs.judge.judge_walks.Goals.{else-walks-ne1-via-then-walks-ne1+else-walks-k, else-walks-ne1-via-else-walks-ne1}

pub returns-then-not-are_walks-clause-barrier : goal.returns-then-not-are_walks-clause-barrier
returns-then-not-are_walks-clause-barrier g c = (
  λ none. absurd (true≢false none),
  λ b. absurd (no_walk (g.N.LazyNet.shape c.args.net.now) c.args.root (lists_in c.args.walks.now) c.args.k (MatchBool-at_false _ _ c.if-not-are_walks.true c.are_walks.ensures) b),
)

pub returns-then-branch-clause-barrier : goal.returns-then-branch-clause-barrier
returns-then-branch-clause-barrier g c = (
  λ none. absurd (true≢false none),
  λ b. absurd (no_share (g.N.LazyNet.shape c.args.net.now) c.args.root (lists_in c.args.walks.now) c.args.k c.requires b (c.in_ok-has_shared.ensures.0 c.if-branch.true)),
)

pub returns-clause-barrier : goal.returns-clause-barrier
returns-clause-barrier g c =
    let many = length-map c.args.walks.now (λ v. v.items) in
    let enough : AreEnough c.args.k (lists_in c.args.walks.now) = elim c.else-walks-ne1.branch [
      | else-walks-ne1-via-then-walks-ne1+else-walks-k w ↦ inr (many ∙ w.if-walks-k.false)
      | else-walks-ne1-via-else-walks-ne1 w ↦ inl (many ∙ w.if-walks-ne1.false)
    ] in (
      λ none. barrier (g.N.LazyNet.shape c.args.net.now) c.args.root (lists_in c.args.walks.now) c.args.k enough (MatchBool-at_true _ _ c.if-not-are_walks.false c.are_walks.ensures)
          (λ shared. false≢true (sym c.if-branch.false ∙ c.in_ok-has_shared.ensures.1 shared)),
      λ b. refl,
    )
