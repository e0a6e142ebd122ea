-- Each node that is looked up was met, or one was not.
use Rattle.std.proofs.Common.{◌<◌, length, refl, sym, ◌∙◌, arith}
use Rattle.std.specs.Prelude.{Contains}
use Rattle.std.proofs.lemmas.Bool.{false≢true}
use Rattle.tm_unroll.specs.Searches.{met_by}
use Rattle.tm_unroll.proofs.EachLemmas.{stands-at, each-more, each-all}
use Rattle.tm_unroll.proofs.SearchLemmas.{node_found}
use Rattle.tm_unroll.proofs.cover.Search.has_met.Goals as goal

pub returns-then-not-contains : goal.returns-then-not-contains
returns-then-not-contains c =
    let within : c.loop-node.node-index < length c.args.nodes.now = omega arith in
    let found = node_found c.node-item.result (met_by c.args.self.now) in (
      λ e. absurd (false≢true e),
      λ all. absurd (false≢true (sym c.if-not-contains.true ∙ c.contains.ensures ∙ found.1 (all c.node-item.result (stands-at c.args.nodes.now c.loop-node.node-index c.node-item.result within c.node-item.is)))),
    )

pub loop-node-preserved : goal.loop-node-preserved
loop-node-preserved c =
    let within : c.loop-node.node-index < length c.args.nodes.now = omega arith in
    let found = node_found c.node-item.result (met_by c.args.self.now) in
    each-more (λ x. Contains (met_by c.args.self.now) x) c.args.nodes.now c.loop-node.node-index c.node-item.result c.loop-node.invariant within c.node-item.is
    (found.0 (sym c.contains.ensures ∙ c.if-not-contains.false))

pub returns : goal.returns
returns c =
    (λ _. each-all (λ x. Contains (met_by c.args.self.now) x) c.args.nodes.now c.loop-node.node-index c.loop-node.invariant (omega (arith, c.loop-node-test.false)), λ _. refl)
