-- A leaf that was met is taken up, and one that was not is left out.
use Rattle.std.proofs.Common.{◌<◌, length, take, ◌+◌, refl, sym, ◌∙◌, subst, arith}
use Rattle.std.proofs.lemmas.Bool.{false≢true}
use Rattle.tm_unroll.specs.declared.cover.Search.{Search}
use Rattle.tm_unroll.specs.Searches.{met_by, TakesUp}
use Rattle.tm_unroll.proofs.SearchLemmas.{node_found, takes_more, takes_same}
use Rattle.tm_unroll.proofs.cover.Search.take_up.Goals as goal
use Rattle.tm_unroll.proofs.cover.Search.take_up.Goals.{then-contains+in_ok-push, else-contains}

pub loop-leaf-preserved : goal.loop-leaf-preserved
loop-leaf-preserved c =
    let within : c.loop-leaf.leaf-index < length c.args.leaves.now = omega arith in
    let found = node_found c.leaf-item.result (met_by c.loop-leaf.self) in
    let P : Search → Type 0 = λ s. TakesUp (take (c.loop-leaf.leaf-index + 1) c.args.leaves.now) c.args.self.now s in
    elim c.if-contains.branch [
      | then-contains+in_ok-push w ↦ subst P (sym w.self-is)
          (takes_more c.args.leaves.now c.loop-leaf.leaf-index c.leaf-item.result c.args.self.now c.loop-leaf.self c.loop-leaf.invariant within c.leaf-item.is _ refl refl
          w.in_ok-push.ensures.items (found.0 (sym c.contains.ensures ∙ w.if-contains.true)))
      | else-contains w ↦ subst P (sym w.self-is)
          (takes_same c.args.leaves.now c.loop-leaf.leaf-index c.leaf-item.result c.args.self.now c.loop-leaf.self c.loop-leaf.invariant within c.leaf-item.is
          (λ stands. false≢true (sym w.if-contains.false ∙ c.contains.ensures ∙ found.1 stands)))
    ]
