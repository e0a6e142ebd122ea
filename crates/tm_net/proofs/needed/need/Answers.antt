-- the turn of one node
use Rattle.std.proofs.Common.{◌≡◌, ◌<◌, ℕ, Bool, [], ◌∷◌, get_or, set, ap, subst, sym, ◌∙◌}
use Rattle.tm_circuit.specs.Plain.{latch, drive, drive_of}
use Rattle.tm_unroll.specs.declared.node.Node.{Node}
use Rattle.tm_unroll.specs.Nodes.{node_at}
use Rattle.tm_net.specs.Registers.{AreLows, Lowers}
use Rattle.tm_net.proofs.NeedLemmas.{IsWay, way_ends, way_on, next_inside, as_latch}
use Rattle.tm_net.proofs.needed.need.Goals as goal

pub returns-in_default : goal.returns-in_default
returns-in_default c =
    let before : c.loop-node.node.advance < get_or c.loop-node.lows c.loop-node.node.signal 0 =
    subst (λ (n : Node). n.advance < get_or c.loop-node.lows n.signal 0) c.node.view_is c.loop-node-test.true in
    let no_latch : (next : ℕ) (init : Bool) → drive c.args.circuit.now c.loop-node.node.signal ≡ latch next init → _ =
    λ next init is. c.in_default.not-Latch next init (as_latch c.driver.result.now next init (sym c.driver.ensures.drive ∙ is)) in
    let done = way_ends c.args.circuit.now c.args.node c.args.lows.now c.loop-node.lows c.loop-node.node c.loop-node.invariant before no_latch in
    record {
      lows = subst (λ (n : Node). AreLows c.args.circuit.now (set c.loop-node.lows n.signal n.advance)) (sym c.node.view_is) done.0;
      lowers = subst (λ (n : Node). Lowers c.args.circuit.now (c.args.node ∷ []) c.args.lows.now (set c.loop-node.lows n.signal n.advance)) (sym c.node.view_is) done.1;
    }

pub loop-node-preserved : goal.loop-node-preserved
loop-node-preserved c =
    let before : c.loop-node.node.advance < get_or c.loop-node.lows c.loop-node.node.signal 0 =
    subst (λ (n : Node). n.advance < get_or c.loop-node.lows n.signal 0) c.node.view_is c.loop-node-test.true in
    let is : drive c.args.circuit.now c.loop-node.node.signal ≡ latch c.in-Latch.next c.in-Latch.init = c.driver.ensures.drive ∙ ap drive_of c.in-Latch.is in
    let inside = next_inside c.args.circuit.now c.requires.sound c.loop-node.node.signal c.in-Latch.next c.in-Latch.init c.loop-node.invariant.signal is in
    subst (λ (n : Node). IsWay c.args.circuit.now c.args.node c.args.lows.now (set c.loop-node.lows n.signal n.advance) (node_at 0 c.in-Latch.next)) (sym c.node.view_is)
    (way_on c.args.circuit.now c.args.node c.args.lows.now c.loop-node.lows c.loop-node.node c.loop-node.invariant before c.in-Latch.next c.in-Latch.init is inside)
