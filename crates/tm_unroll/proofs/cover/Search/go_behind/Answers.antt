-- Each turn goes through one node that is above the floor, and passes over any other.
use Rattle.std.proofs.Common.{◌≡◌, List, length, refl, sym, ◌∙◌, subst, arith}
use Rattle.std.specs.Prelude.{Contains}
use Rattle.std.proofs.lemmas.Bool.{false≢true}
use Rattle.tm_unroll.specs.declared.cover.Search.{Search}
use Rattle.tm_unroll.specs.declared.node.Node.{Node}
use Rattle.tm_unroll.specs.Falls.{IsLower}
use Rattle.tm_unroll.specs.Searches.{MeetsMore}
use Rattle.tm_unroll.proofs.SearchLemmas.{Pops, meets_none, behind_starts, behind_goes, behind_skips, behind_done, popped_met}
use Rattle.tm_unroll.proofs.EachLemmas.{none-of}
use Rattle.tm_unroll.proofs.CountLemmas.{met_within, room_less}
use Rattle.tm_unroll.proofs.cover.Search.go_behind.Goals as goal

pub loop-node-init : goal.loop-node-init
loop-node-init c = record {
  going = behind_starts c.args.circuit.now.drives (λ (x : Node). IsLower c.args.circuit.now c.args.floor x) c.args.leaves.now c.args.self.now c.take_up.new.self c.requires.before c.in_ok-take_up.ensures;
  root = c.in_ok-take_up.ensures.root;
  kept = λ x h. subst (λ (l : List Node). Contains l x) (sym c.in_ok-take_up.ensures.met) h;
}

pub is_lower-requires-clause-other : goal.is_lower-requires-clause-other
is_lower-requires-clause-other c =
    let p : Search = record { root = c.loop-node.self.root; met = c.loop-node.self.met; stack = c.pop.new.self } in
    let pops : Pops c.in-Some.node c.loop-node.self p = record { root = refl; met = refl; left = c.in-Some.ensures.items } in
    let going = c.loop-node.invariant.going in
    met_within c.args.circuit.now c.requires.sound c.loop-node.self going.search c.in-Some.node (popped_met c.args.circuit.now.drives c.loop-node.self p c.in-Some.node going.search pops)

pub meet_reads-requires : goal.meet_reads-requires
meet_reads-requires c =
    let p : Search = record { root = c.loop-node.self.root; met = c.loop-node.self.met; stack = c.pop.new.self } in
    let pops : Pops c.in-Some.node c.loop-node.self p = record { root = refl; met = refl; left = c.in-Some.ensures.items } in
    let going = c.loop-node.invariant.going in
    met_within c.args.circuit.now c.requires.sound c.loop-node.self going.search c.in-Some.node (popped_met c.args.circuit.now.drives c.loop-node.self p c.in-Some.node going.search pops)

pub loop-node-preserved-in-Continue-branch-2 : goal.loop-node-preserved-in-Continue-branch-2
loop-node-preserved-in-Continue-branch-2 c =
    let p : Search = record { root = c.loop-node.self.root; met = c.loop-node.self.met; stack = c.pop.new.self } in
    let pops : Pops c.in-Some.node c.loop-node.self p = record { root = refl; met = refl; left = c.in-Some.ensures.items } in
    let m : MeetsMore _ p c.meet_reads.new.self = c.in_ok-meet_reads.ensures in
    record {
      going = behind_goes c.args.circuit.now.drives (λ (x : Node). IsLower c.args.circuit.now c.args.floor x) c.loop-node.self p c.meet_reads.new.self c.in-Some.node c.loop-node.invariant.going pops m;
      root = m.root ∙ c.loop-node.invariant.root;
      kept = λ x h. m.kept x (c.loop-node.invariant.kept x h);
    }

pub loop-node-smaller-in-Continue-branch-2 : goal.loop-node-smaller-in-Continue-branch-2
loop-node-smaller-in-Continue-branch-2 c =
    let p : Search = record { root = c.loop-node.self.root; met = c.loop-node.self.met; stack = c.pop.new.self } in
    let pops : Pops c.in-Some.node c.loop-node.self p = record { root = refl; met = refl; left = c.in-Some.ensures.items } in
    let m : MeetsMore _ p c.meet_reads.new.self = c.in_ok-meet_reads.ensures in
    let after = behind_goes c.args.circuit.now.drives (λ (x : Node). IsLower c.args.circuit.now c.args.floor x) c.loop-node.self p c.meet_reads.new.self c.in-Some.node c.loop-node.invariant.going pops m in
    room_less c.args.circuit.now c.requires.sound c.loop-node.self p c.meet_reads.new.self c.in-Some.node _ c.loop-node.invariant.going.search after.search pops m

pub loop-node-preserved : goal.loop-node-preserved
loop-node-preserved c =
    let p : Search = record { root = c.loop-node.self.root; met = c.loop-node.self.met; stack = c.pop.new.self } in
    let pops : Pops c.in-Some.node c.loop-node.self p = record { root = refl; met = refl; left = c.in-Some.ensures.items } in
    record {
      going = behind_skips c.args.circuit.now.drives (λ (x : Node). IsLower c.args.circuit.now c.args.floor x) c.loop-node.self p c.in-Some.node c.loop-node.invariant.going pops
          (λ up. false≢true (sym c.if-is_lower.false ∙ c.is_lower.ensures.1 up));
      root = c.loop-node.invariant.root;
      kept = c.loop-node.invariant.kept;
    }

pub loop-node-smaller : goal.loop-node-smaller
loop-node-smaller c =
    let p : Search = record { root = c.loop-node.self.root; met = c.loop-node.self.met; stack = c.pop.new.self } in
    let pops : Pops c.in-Some.node c.loop-node.self p = record { root = refl; met = refl; left = c.in-Some.ensures.items } in
    let after = behind_skips c.args.circuit.now.drives (λ (x : Node). IsLower c.args.circuit.now c.args.floor x) c.loop-node.self p c.in-Some.node c.loop-node.invariant.going pops
    (λ up. false≢true (sym c.if-is_lower.false ∙ c.is_lower.ensures.1 up)) in
    room_less c.args.circuit.now c.requires.sound c.loop-node.self p p c.in-Some.node _ c.loop-node.invariant.going.search after.search pops (meets_none p)

pub returns : goal.returns
returns c =
    let p : Search = record { root = c.loop-node.self.root; met = c.loop-node.self.met; stack = c.pop.new.self } in
    let before : length c.loop-node.self.stack.items ≡ 0 = grind (arith, c.in_default.ensures.cases.0) in
    let after : length c.pop.new.self.items ≡ 0 = grind (arith, c.in_default.ensures.cases.1) in
    let done = behind_done c.args.circuit.now.drives c.loop-node.self p refl refl (none-of c.loop-node.self.stack.items before) (none-of c.pop.new.self.items after)
    (λ (x : Node). IsLower c.args.circuit.now c.args.floor x) c.loop-node.invariant.going in
    record { search = done.0; root = c.loop-node.invariant.root; kept = c.loop-node.invariant.kept; closed = done.1 }
