-- A node that is served in time is a leaf, and any other has to be replaced.
use Rattle.std.proofs.Common.{◌≡◌, Bool}
use Rattle.std.specs.Prelude.{IsTrue, ◌∷◌, []}
use Rattle.tm_unroll.specs.Replaced.{Joins}
use Rattle.tm_merge.specs.Merges.{HasOneMore, TakesIn}
use Rattle.tm_merge.proofs.MergeLemmas.{if_ok, takes_leaf, takes_late}
use Rattle.tm_merge.proofs.cuts.Moment.add.Goals as goal

pub returns-then-is_in_time : goal.returns-then-is_in_time
returns-then-is_in_time c =
    let m = c.args.self.now in
    let x = c.args.node.now in
    let old = c.args.merging.now in
    let new = c.add_leaf.new.self in
    if_ok (λ (b : Bool). IsTrue b → Joins (λ z. x ≡ z) m.k old.leaves.items new.leaves.items) (λ (b : Bool). IsTrue b → TakesIn m (x ∷ []) old new) c.add_leaf.result
    (λ b joins yes'. takes_leaf m x old new c.requires (c.is_in_time.ensures c.if-is_in_time.true) (joins yes') c.add_leaf.ensures.late) c.add_leaf.ensures.leaves

pub returns-else-is_in_time : goal.returns-else-is_in_time
returns-else-is_in_time c =
    let m = c.args.self.now in
    let x = c.args.node.now in
    let old = c.args.merging.now in
    let new = c.add_late.new.self in
    if_ok (λ (b : Bool). IsTrue b → HasOneMore x old.late.items new.late.items) (λ (b : Bool). IsTrue b → TakesIn m (x ∷ []) old new) c.add_late.result
    (λ b more yes'. takes_late m x old new c.requires (more yes') c.add_late.ensures.leaves) c.add_late.ensures.late
