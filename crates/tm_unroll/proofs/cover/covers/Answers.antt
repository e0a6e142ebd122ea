-- The leaves cover where all are met, before the leaves or behind them.
use Rattle.std.proofs.Common.{◌<◌, true, List, length, sym, ◌∙◌, subst}
use Rattle.std.specs.Prelude.{Contains}
use Rattle.std.specs.Bool.{Decides}
use Rattle.std.proofs.lemmas.Bool.Decides.{when_true}
use Rattle.tm_unroll.specs.declared.node.Node.{Node}
use Rattle.tm_unroll.specs.Walks.{Covers}
use Rattle.tm_unroll.specs.Mappings.{table_of, root}
use Rattle.tm_unroll.proofs.SearchLemmas.{covers_first, covers_last}
use Rattle.tm_unroll.proofs.cover.covers.Goals as goal

pub lowest_missing-requires : goal.lowest_missing-requires
lowest_missing-requires c =
    subst (λ (l : List Node). (x : Node) → Contains l x → x.signal < length c.args.circuit.now.drives) (sym c.as_slice-leaves.ensures) c.requires.leaves

pub returns-in_default : goal.returns-in_default
returns-in_default c =
    let x = root (table_of c.args.lut.now) in
    let before = when_true _ _ c.if-not-branch.false c.in_ok-go_before.ensures.answer in
    subst (λ (l : List Node). Decides true (Covers c.args.circuit.now.drives l x)) c.as_slice-leaves.ensures
    (covers_first c.args.circuit.now.drives c.as_slice-leaves.result.now x c.go_before.new.self before (c.in_ok-go_before.ensures.root ∙ c.in_ok-start.ensures.root) c.in_default.ensures)

pub go_behind-requires-clause-floor : goal.go_behind-requires-clause-floor
go_behind-requires-clause-floor c = c.requires.leaves c.in-Some.floor (subst (λ (l : List Node). Contains l c.in-Some.floor) c.as_slice-leaves.ensures c.in-Some.ensures.leaf)

pub returns : goal.returns
returns c =
    let x = root (table_of c.args.lut.now) in
    let before = when_true _ _ c.if-not-branch.false c.in_ok-go_before.ensures.answer in
    subst (λ (l : List Node). Decides c.has_met.result (Covers c.args.circuit.now.drives l x)) c.as_slice-leaves.ensures
    (covers_last c.args.circuit.now c.requires.sound c.in-Some.floor c.as_slice-leaves.result.now x c.go_before.new.self c.go_behind.new.self c.has_met.result before
    c.in-Some.ensures c.in_ok-go_behind.ensures (c.in_ok-go_before.ensures.root ∙ c.in_ok-start.ensures.root) c.has_met.ensures)
