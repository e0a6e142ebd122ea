-- Each turn takes one node: a leaf is passed over, an end refutes the cover, and any other node is gone through.
use Rattle.std.proofs.Common.{◌≡◌, length, refl, sym, ◌∙◌, subst, arith}
use Rattle.std.specs.Prelude.{Contains}
use Rattle.std.proofs.lemmas.Bool.{false≢true}
use Rattle.tm_unroll.specs.declared.cover.Search.{Search}
use Rattle.tm_unroll.specs.declared.node.Node.{Node}
use Rattle.tm_unroll.specs.Walks.{Covers}
use Rattle.tm_unroll.specs.Searches.{MeetsMore}
use Rattle.tm_unroll.proofs.SearchLemmas.{Pops, node_found_back, meets_none, before_starts, before_leaf, before_goes, before_ends, before_done, popped_met}
use Rattle.tm_unroll.proofs.EachLemmas.{none-of}
use Rattle.tm_unroll.proofs.CountLemmas.{met_within, room_less}
use Rattle.tm_unroll.proofs.cover.Search.go_before.Goals as goal

pub loop-node-init : goal.loop-node-init
loop-node-init c = record { going = before_starts c.args.circuit.now.drives c.args.leaves.now c.args.self.now c.requires.start; root = refl }

pub is_end-requires : goal.is_end-requires
is_end-requires c =
    let p : Search = record { root = c.loop-node.self.root; met = c.loop-node.self.met; stack = c.pop.new.self } in
    let pops : Pops c.in-Some.node c.loop-node.self p = record { root = refl; met = refl; left = c.in-Some.ensures.items } in
    let going = c.loop-node.invariant.going in
    met_within c.args.circuit.now c.requires.sound c.loop-node.self going.search c.in-Some.node (popped_met c.args.circuit.now.drives c.loop-node.self p c.in-Some.node going.search pops)

pub meet_reads-requires : goal.meet_reads-requires
meet_reads-requires c =
    let p : Search = record { root = c.loop-node.self.root; met = c.loop-node.self.met; stack = c.pop.new.self } in
    let pops : Pops c.in-Some.node c.loop-node.self p = record { root = refl; met = refl; left = c.in-Some.ensures.items } in
    let going = c.loop-node.invariant.going in
    met_within c.args.circuit.now c.requires.sound c.loop-node.self going.search c.in-Some.node (popped_met c.args.circuit.now.drives c.loop-node.self p c.in-Some.node going.search pops)

pub returns-then-is_end-clause-answer : goal.returns-then-is_end-clause-answer
returns-then-is_end-clause-answer c =
    let p : Search = record { root = c.loop-node.self.root; met = c.loop-node.self.met; stack = c.pop.new.self } in
    let pops : Pops c.in-Some.node c.loop-node.self p = record { root = refl; met = refl; left = c.in-Some.ensures.items } in
    let found = node_found_back c.in-Some.node c.args.leaves.now in
    let other : ¬ Contains c.args.leaves.now c.in-Some.node = λ stands. false≢true (sym c.if-not-contains.true ∙ c.contains.ensures.value ∙ found.1 stands) in
    subst (λ (r : Node). ¬ Covers c.args.circuit.now.drives c.args.leaves.now r) c.loop-node.invariant.root
    (before_ends c.args.circuit.now.drives c.args.leaves.now c.loop-node.self p c.in-Some.node c.loop-node.invariant.going pops other (sym c.is_end.ensures ∙ c.if-is_end.true))

pub loop-node-preserved-in-Continue-1 : goal.loop-node-preserved-in-Continue-1
loop-node-preserved-in-Continue-1 c =
    let p : Search = record { root = c.loop-node.self.root; met = c.loop-node.self.met; stack = c.pop.new.self } in
    let pops : Pops c.in-Some.node c.loop-node.self p = record { root = refl; met = refl; left = c.in-Some.ensures.items } in
    let found = node_found_back c.in-Some.node c.args.leaves.now in
    let other : ¬ Contains c.args.leaves.now c.in-Some.node = λ stands. false≢true (sym c.if-not-contains.true ∙ c.contains.ensures.value ∙ found.1 stands) in
    record {
      going = before_goes c.args.circuit.now.drives c.args.leaves.now c.loop-node.self p c.meet_reads.new.self c.in-Some.node c.loop-node.invariant.going pops other
          (sym c.is_end.ensures ∙ c.if-is_end.false) c.in_ok-meet_reads.ensures;
      root = c.in_ok-meet_reads.ensures.root ∙ c.loop-node.invariant.root;
    }

pub loop-node-smaller-in-Continue-1 : goal.loop-node-smaller-in-Continue-1
loop-node-smaller-in-Continue-1 c =
    let p : Search = record { root = c.loop-node.self.root; met = c.loop-node.self.met; stack = c.pop.new.self } in
    let pops : Pops c.in-Some.node c.loop-node.self p = record { root = refl; met = refl; left = c.in-Some.ensures.items } in
    let found = node_found_back c.in-Some.node c.args.leaves.now in
    let other : ¬ Contains c.args.leaves.now c.in-Some.node = λ stands. false≢true (sym c.if-not-contains.true ∙ c.contains.ensures.value ∙ found.1 stands) in
    let m : MeetsMore _ p c.meet_reads.new.self = c.in_ok-meet_reads.ensures in
    let after = before_goes c.args.circuit.now.drives c.args.leaves.now c.loop-node.self p c.meet_reads.new.self c.in-Some.node c.loop-node.invariant.going pops other
    (sym c.is_end.ensures ∙ c.if-is_end.false) m in
    room_less c.args.circuit.now c.requires.sound c.loop-node.self p c.meet_reads.new.self c.in-Some.node _ c.loop-node.invariant.going.search after.search pops m

pub loop-node-preserved : goal.loop-node-preserved
loop-node-preserved c =
    let p : Search = record { root = c.loop-node.self.root; met = c.loop-node.self.met; stack = c.pop.new.self } in
    let pops : Pops c.in-Some.node c.loop-node.self p = record { root = refl; met = refl; left = c.in-Some.ensures.items } in
    let found = node_found_back c.in-Some.node c.args.leaves.now in
    record {
      going = before_leaf c.args.circuit.now.drives c.args.leaves.now c.loop-node.self p c.in-Some.node c.loop-node.invariant.going pops (found.0 (sym c.contains.ensures.value ∙ c.if-not-contains.false));
      root = c.loop-node.invariant.root;
    }

pub loop-node-smaller : goal.loop-node-smaller
loop-node-smaller c =
    let p : Search = record { root = c.loop-node.self.root; met = c.loop-node.self.met; stack = c.pop.new.self } in
    let pops : Pops c.in-Some.node c.loop-node.self p = record { root = refl; met = refl; left = c.in-Some.ensures.items } in
    let found = node_found_back c.in-Some.node c.args.leaves.now in
    let after = before_leaf c.args.circuit.now.drives c.args.leaves.now c.loop-node.self p c.in-Some.node c.loop-node.invariant.going pops (found.0 (sym c.contains.ensures.value ∙ c.if-not-contains.false)) in
    room_less c.args.circuit.now c.requires.sound c.loop-node.self p p c.in-Some.node _ c.loop-node.invariant.going.search after.search pops (meets_none p)

pub returns-clause-answer : goal.returns-clause-answer
returns-clause-answer c =
    let p : Search = record { root = c.loop-node.self.root; met = c.loop-node.self.met; stack = c.pop.new.self } in
    let before : length c.loop-node.self.stack.items ≡ 0 = grind (arith, c.in_default.ensures.cases.0) in
    let after : length c.pop.new.self.items ≡ 0 = grind (arith, c.in_default.ensures.cases.1) in
    before_done c.args.circuit.now.drives c.loop-node.self p refl refl (none-of c.loop-node.self.stack.items before) (none-of c.pop.new.self.items after) c.args.leaves.now
    c.loop-node.invariant.going
