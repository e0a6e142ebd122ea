use Rattle.std.proofs.Common.{◌≡◌, false, inl, [], ◌∷◌, ap, subst, ◌∙◌}
use Rattle.tm_flow.specs.Flows.{indices_of}
use Rattle.tm_flow.specs.Starts.{IsStart}
use Rattle.tm_flow.specs.declared.known.Start.TheVariants.{Free}
use Rattle.tm_flow.proofs.PlaceLemmas.{all_has}
use Rattle.tm_flow.proofs.WalkLemmas.{is_free}
use Rattle.tm_flow.proofs.cut.answer.Goals as goal

pub returns-in_ok-only-in-Free : goal.returns-in_ok-only-in-Free
returns-in_ok-only-in-Free g c =
    let n = g.N.LazyNet.shape c.args.net.now in
    let met = c.known_walks.new.met in
    let walk = c.in-Free.walk.items in
    let free : IsStart n g.N.Node.PartialEq.eq c.args.root c.args.k met.nodes.keys met.marks.items (Free c.in-Free.walk) =
    subst (IsStart n g.N.Node.PartialEq.eq c.args.root c.args.k met.nodes.keys met.marks.items) c.in-Free.is c.in_ok-walk.ensures in
    inl (
      indices_of walk,
      c.in_ok-only-in-Free.ensures ∙ ap (λ w. indices_of w ∷ []) c.as_slice.ensures.value,
      is_free n c.args.root walk free.0 (all_has (λ e. n.may_cut e.to ≡ false) walk free.1),
    )
