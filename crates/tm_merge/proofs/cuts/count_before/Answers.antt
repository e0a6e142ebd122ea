-- The first node that is not before the node parts the list, and where there is none its end does.
use Rattle.std.proofs.Common.{◌<◌, length, sym, ◌∙◌, arith}
use Rattle.std.proofs.lemmas.Bool.{false≢true}
use Rattle.tm_unroll.specs.declared.node.Node.{Node}
use Rattle.tm_unroll.specs.Nodes.{IsBefore}
use Rattle.tm_unroll.proofs.EachLemmas.{each-more}
use Rattle.tm_unroll.proofs.AddLemmas.{parts_here, parts_end}
use Rattle.tm_merge.proofs.cuts.count_before.Goals as goal

pub returns-then-not-is_before : goal.returns-then-not-is_before
returns-then-not-is_before c =
    let within : c.loop-place.place < length c.args.ascending.now = omega arith in
    parts_here c.args.ascending.now c.loop-place.place c.args.node.now c.index-ascending-place.result c.requires within c.index-ascending-place.is c.loop-place.invariant
    (λ before. false≢true (sym c.if-not-is_before.true ∙ c.is_before.ensures.1 before))

pub loop-place-preserved : goal.loop-place-preserved
loop-place-preserved c =
    let within : c.loop-place.place < length c.args.ascending.now = omega arith in
    each-more (λ (y : Node). IsBefore y c.args.node.now) c.args.ascending.now c.loop-place.place c.index-ascending-place.result c.loop-place.invariant within c.index-ascending-place.is
    (c.is_before.ensures.0 c.if-not-is_before.false)

pub returns : goal.returns
returns c = parts_end c.args.ascending.now c.loop-place.place c.args.node.now (omega (arith, c.loop-place-test.false)) c.loop-place.invariant
