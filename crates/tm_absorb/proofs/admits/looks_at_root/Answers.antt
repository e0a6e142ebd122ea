use Rattle.std.proofs.Common.{List, subst, sym}
use Rattle.std.specs.Prelude.{Contains}
use Rattle.std.proofs.lemmas.Bool.{MatchBool-at_true, MatchBool-at_false}
use Rattle.tm_unroll.specs.declared.node.Node.{Node}
use Rattle.tm_unroll.specs.Mappings.{table_of}
use Rattle.tm_unroll.proofs.EachLemmas.{stands-at, each-more, each-all}
use Rattle.tm_absorb.specs.Admitting.{IsRootOrOther}
use Rattle.tm_absorb.proofs.admits.looks_at_root.Goals as goal

pub returns-then-not-is_root_or_other : goal.returns-then-not-is_root_or_other
returns-then-not-is_root_or_other c = λ looks.
    let stands = stands-at c.as_slice-leaf-items.result.now c.loop-leaf.leaf-index c.leaf-item.result c.loop-leaf-test.true c.leaf-item.is in
    MatchBool-at_false _ _ c.if-not-is_root_or_other.true c.is_root_or_other.ensures
    (looks c.leaf-item.result (subst (λ (l : List Node). Contains l c.leaf-item.result) c.as_slice-leaf-items.ensures stands))

pub loop-leaf-preserved : goal.loop-leaf-preserved
loop-leaf-preserved c =
    each-more (IsRootOrOther c.args.circuit.now.drives (table_of c.args.table.now)) c.as_slice-leaf-items.result.now c.loop-leaf.leaf-index c.leaf-item.result c.loop-leaf.invariant
    c.loop-leaf-test.true c.leaf-item.is (MatchBool-at_true _ _ c.if-not-is_root_or_other.false c.is_root_or_other.ensures)

pub returns : goal.returns
returns c x leaf =
    each-all (IsRootOrOther c.args.circuit.now.drives (table_of c.args.table.now)) c.as_slice-leaf-items.result.now c.loop-leaf.leaf-index c.loop-leaf.invariant c.loop-leaf-test.false
    x (subst (λ (l : List Node). Contains l x) (sym c.as_slice-leaf-items.ensures) leaf)
