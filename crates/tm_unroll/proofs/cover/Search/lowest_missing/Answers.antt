-- A leaf that is missing is compared with the lowest so far, and one that was met is passed over.
use Rattle.std.proofs.Common.{◌+◌, ◌<◌, Option, length, take, sym, ◌∙◌, subst, arith}
use Rattle.std.specs.Prelude.{Contains, MatchOption}
use Rattle.std.proofs.lemmas.Bool.{false≢true}
use Rattle.tm_unroll.specs.declared.node.Node.{Node}
use Rattle.tm_unroll.specs.Searches.{met_by, IsLowestMissing}
use Rattle.tm_unroll.proofs.EachLemmas.{stands-at}
use Rattle.tm_unroll.proofs.SearchLemmas.{node_found}
use Rattle.tm_unroll.proofs.FloorLemmas.{floor_known, floor_of_all, floor_more, lowest_more}
use Rattle.tm_unroll.proofs.cover.Search.lowest_missing.Goals as goal
use Rattle.tm_unroll.proofs.cover.Search.lowest_missing.Goals.{then-not-contains, else-not-contains}

pub lower_of-requires-clause-first : goal.lower_of-requires-clause-first
lower_of-requires-clause-first c =
    floor_known c.args.circuit.now c.args.leaves.now c.args.self.now c.loop-leaf.leaf-index (λ (x : Node). x.signal < length c.args.circuit.now.drives) c.requires c.loop-leaf.lowest c.loop-leaf.invariant

pub lower_of-requires-clause-second : goal.lower_of-requires-clause-second
lower_of-requires-clause-second c =
    let within : c.loop-leaf.leaf-index < length c.args.leaves.now = omega arith in
    c.requires c.leaf-item.result (stands-at c.args.leaves.now c.loop-leaf.leaf-index c.leaf-item.result within c.leaf-item.is)

pub loop-leaf-preserved : goal.loop-leaf-preserved
loop-leaf-preserved c =
    let within : c.loop-leaf.leaf-index < length c.args.leaves.now = omega arith in
    let found = node_found c.leaf-item.result (met_by c.args.self.now) in
    let P : Option Node → Type 0 = λ o. MatchOption o ((x : Node) → Contains (take (c.loop-leaf.leaf-index + 1) c.args.leaves.now) x → Contains (met_by c.args.self.now) x)
    (IsLowestMissing c.args.circuit.now (take (c.loop-leaf.leaf-index + 1) c.args.leaves.now) c.args.self.now) in
    elim c.if-not-contains.branch [
      | then-not-contains w ↦ subst P (sym w.lowest-is)
          (floor_more c.args.circuit.now c.args.leaves.now c.args.self.now c.loop-leaf.leaf-index c.leaf-item.result within c.leaf-item.is
          (λ stands. false≢true (sym w.if-not-contains.true ∙ c.contains.ensures ∙ found.1 stands)) c.loop-leaf.lowest w.lower_of.result w.lower_of.ensures c.loop-leaf.invariant)
      | else-not-contains w ↦ subst P (sym w.lowest-is)
          (lowest_more c.args.circuit.now c.args.leaves.now c.args.self.now c.loop-leaf.leaf-index c.leaf-item.result within c.leaf-item.is
          (found.0 (sym c.contains.ensures ∙ w.if-not-contains.false)) c.loop-leaf.lowest c.loop-leaf.invariant)
    ]

pub returns : goal.returns
returns c = floor_of_all c.args.circuit.now c.args.leaves.now c.args.self.now c.loop-leaf.leaf-index (omega (arith, c.loop-leaf-test.false)) c.loop-leaf.lowest c.loop-leaf.invariant
