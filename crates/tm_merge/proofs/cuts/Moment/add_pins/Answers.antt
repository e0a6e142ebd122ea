-- The node behind one pin more is taken in.
use Rattle.std.proofs.Common.{◌<◌, ◌∷◌, [], List, ℕ, map, length, subst, arith}
use Rattle.std.proofs.lemmas.List.{take_all}
use Rattle.tm_unroll.specs.declared.node.Node.{Node}
use Rattle.tm_unroll.specs.Latches.{behind_latches}
use Rattle.tm_merge.specs.Merges.{TakesIn}
use Rattle.tm_merge.proofs.MergeLemmas.{takes_next_of}
use Rattle.tm_merge.proofs.cuts.Moment.add_pins.Goals as goal

pub loop-pin-preserved : goal.loop-pin-preserved
loop-pin-preserved c =
    let m = c.args.self.now in
    let within : c.loop-pin.pin-index < length c.args.pins.now = omega arith in
    takes_next_of m (λ p. behind_latches m.circuit.now.drives c.args.lag p) c.args.pins.now c.loop-pin.pin-index c.pin-item.result c.args.merging.now c.loop-pin.merging c.add.new.merging
    within c.pin-item.is c.loop-pin.invariant
    (subst (λ (x : Node). TakesIn m (x ∷ []) c.loop-pin.merging c.add.new.merging) c.behind_latches-node.ensures (c.in_ok-add.ensures c.if-not-branch.false))

pub returns : goal.returns
returns c = λ _.
    let m = c.args.self.now in
    subst (λ (l : List ℕ). TakesIn m (map (λ p. behind_latches m.circuit.now.drives c.args.lag p) l) c.args.merging.now c.loop-pin.merging)
    (take_all c.loop-pin.pin-index c.args.pins.now (omega (arith, c.loop-pin-test.false))) c.loop-pin.invariant
