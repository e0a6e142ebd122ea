-- The tests of the table that is read at the place are those of the table that stands there.
use Rattle.std.proofs.Common.{List, map, get_or, sym, ◌∙◌, subst}
use Rattle.std.specs.Prelude.{Contains}
use Rattle.std.proofs.lemmas.Bool.{false≢true}
use Rattle.std.proofs.lemmas.List.Elements.{Contains-get_or}
use Rattle.tm_unroll.specs.declared.node.Node.{Node}
use Rattle.tm_unroll.specs.declared.node.Lut.{Lut}
use Rattle.tm_unroll.specs.declared.node.MapWhy.TheVariants.{Unserved}
use Rattle.tm_unroll.specs.Mappings.{table_of, AreServed}
use Rattle.tm_unroll.specs.Faults.{Passes, FailsBy}
use Rattle.tm_unroll.proofs.ListLemmas.{at-read, one-at}
use Rattle.tm_unroll.proofs.lawfulness.judge_table.Goals as goal

pub covers-requires-clause-leaves : goal.covers-requires-clause-leaves
covers-requires-clause-leaves c = λ x leaf. ((c.has_leaves.ensures.0 c.if-not-has_leaves.false).leaves x leaf).signal

pub are_served-requires-clause-signals : goal.are_served-requires-clause-signals
are_served-requires-clause-signals c =
    let has = c.has_leaves.ensures.0 c.if-not-has_leaves.false in
    λ i d inside.
    let x = get_or c.as_slice.result.now i d in
    (has.leaves x (subst (λ (l : List Node). Contains l x) c.as_slice.ensures (Contains-get_or c.as_slice.result.now i d inside))).signal

pub returns-then-not-are_served : goal.returns-then-not-are_served
returns-then-not-are_served c =
    let l = c.index-luts-place.result in
    let tables = map table_of c.args.luts.now in
    let here = at-read c.args.luts.now c.args.place l c.requires.place (sym c.index-luts-place.is) in
    let fails : FailsBy Unserved 0 c.args.circuit.now c.args.k c.args.d tables c.args.place (table_of l) = (
      c.is_placed.ensures.0 c.if-not-is_placed.false,
      c.has_leaves.ensures.0 c.if-not-has_leaves.false,
      c.in_ok-covers.ensures.0 c.if-not-branch.false,
      λ served. false≢true (sym c.if-not-are_served.true
          ∙ (c.are_served.ensures tables c.requires.lags).1 (subst (λ (n : List Node). AreServed c.args.circuit.now.drives tables n) (sym c.as_slice.ensures) served)),
    ) in
    λ t at. subst (λ (u : Lut). FailsBy Unserved 0 c.args.circuit.now c.args.k c.args.d tables c.args.place (table_of u)) (one-at c.args.luts.now c.args.place l t here at) fails

pub returns : goal.returns
returns c =
    let l = c.index-luts-place.result in
    let tables = map table_of c.args.luts.now in
    let here = at-read c.args.luts.now c.args.place l c.requires.place (sym c.index-luts-place.is) in
    let passes : Passes 0 c.args.circuit.now c.args.k c.args.d tables c.args.place (table_of l) = record {
      placed = c.is_placed.ensures.0 c.if-not-is_placed.false;
      leaves = c.has_leaves.ensures.0 c.if-not-has_leaves.false;
      covers = c.in_ok-covers.ensures.0 c.if-not-branch.false;
      served = subst (λ (n : List Node). AreServed c.args.circuit.now.drives tables n) c.as_slice.ensures
          ((c.are_served.ensures tables c.requires.lags).0 c.if-not-are_served.false);
    } in
    λ t at. subst (λ (u : Lut). Passes 0 c.args.circuit.now c.args.k c.args.d tables c.args.place (table_of u)) (one-at c.args.luts.now c.args.place l t here at) passes
