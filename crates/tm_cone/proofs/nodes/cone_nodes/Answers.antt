-- Each turn goes through one node of the list: a leaf is passed over, and what any other node reads is met.
use Rattle.std.proofs.Common.{◌≡◌, ℕ, ◌+◌, ◌-◌, ◌<◌, ◌≤◌, ◌*◌, suc, length, Some, sym, ◌∙◌, ap, subst, rules, arith}
use Rattle.std.specs.Prelude.{slice_get}
use Rattle.std.proofs.lemmas.Bool.{false≢true}
use Rattle.tm_unroll.proofs.ListLemmas.{contains-at, at-within}
use Rattle.tm_unroll.proofs.SearchLemmas.{node_eq, node_decides, node_found_back}
use Rattle.tm_cone.proofs.MeetLemmas.{meets_insert}
use Rattle.tm_cone.proofs.SearchLemmas.{IsGoing, going_few, going_starts, going_leaf, going_on, going_ends, few_steps, at-none}
use Rattle.tm_cone.proofs.nodes.cone_nodes.Goals as goal
use Rattle.tm_cone.proofs.nodes.cone_nodes.Goals.{then-not-contains+in_ok-meet_reads, else-not-contains}

pub loop-node-init : goal.loop-node-init
loop-node-init c =
    let x = c.args.root in
    going_starts c.args.circuit.now c.args.leaves.now x c.new-met.result.keys c.insert.new.self.keys c.requires.root c.requires.guarded (search rules)
    (meets_insert c.new-met.result.keys c.insert.new.self.keys x (λ y. node_eq x y) (λ y. node_decides x y) c.in_ok-insert.ensures.keys)

pub meet_reads-requires : goal.meet_reads-requires
meet_reads-requires c =
    let here : slice_get c.loop-node.met.keys c.loop-node.gone ≡ Some c.in-Some.node = search rules in
    (c.loop-node.invariant.within c.in-Some.node (contains-at c.loop-node.met.keys c.loop-node.gone c.in-Some.node here)).signal

pub overflow_add-gone : goal.overflow_add-gone
overflow_add-gone c =
    let here : slice_get c.loop-node.met.keys c.loop-node.gone ≡ Some c.in-Some.node = search rules in
    let inside = at-within c.loop-node.met.keys c.loop-node.gone c.in-Some.node here in
    let few = going_few c.args.circuit.now c.args.leaves.now c.args.root c.loop-node.gone c.loop-node.met.keys c.loop-node.invariant in
    let near : c.args.root.advance < 256 = search rules in
    let all = few_steps (length c.args.circuit.now.drives) c.args.root.advance c.requires.sound.few near in
    omega arith

pub loop-node-smaller : goal.loop-node-smaller
loop-node-smaller c =
    let here : slice_get c.loop-node.met.keys c.loop-node.gone ≡ Some c.in-Some.node = search rules in
    let inside = at-within c.loop-node.met.keys c.loop-node.gone c.in-Some.node here in
    let few = going_few c.args.circuit.now c.args.leaves.now c.args.root c.loop-node.gone c.loop-node.met.keys c.loop-node.invariant in
    less (length c.args.circuit.now.drives * suc c.args.root.advance) c.loop-node.gone (omega arith)
  where
    less : (a g : ℕ) → g < a → a - (g + 1) < a - g
    less a g low = omega arith

pub loop-node-preserved : goal.loop-node-preserved
loop-node-preserved c =
    let here : slice_get c.loop-node.met.keys c.loop-node.gone ≡ Some c.in-Some.node = search rules in
    let found = node_found_back c.in-Some.node c.args.leaves.now in
    elim c.if-not-contains.branch [
      | then-not-contains+in_ok-meet_reads w ↦
          subst (λ s. IsGoing c.args.circuit.now c.args.leaves.now c.args.root (c.loop-node.gone + 1) s) (ap (λ s. s.keys) (sym w.met-is))
          (going_on c.args.circuit.now c.args.leaves.now c.args.root c.loop-node.gone c.loop-node.met.keys c.in-Some.node c.loop-node.invariant here c.requires.sound
          w.meet_reads.new.met.keys (λ stands. false≢true (sym w.if-not-contains.true ∙ c.contains.ensures.value ∙ found.1 stands)) w.in_ok-meet_reads.ensures)
      | else-not-contains w ↦
          subst (λ s. IsGoing c.args.circuit.now c.args.leaves.now c.args.root (c.loop-node.gone + 1) s) (ap (λ s. s.keys) (sym w.met-is))
          (going_leaf c.args.circuit.now c.args.leaves.now c.args.root c.loop-node.gone c.loop-node.met.keys c.in-Some.node c.loop-node.invariant here
          (found.0 (sym c.contains.ensures.value ∙ w.if-not-contains.false)))
    ]

pub returns : goal.returns
returns c =
    let past : length c.loop-node.met.keys ≤ c.loop-node.gone = at-none c.loop-node.met.keys c.loop-node.gone (sym c.get_index.ensures.key ∙ sym c.copied.ensures ∙ c.in_default.is) in
    going_ends c.args.circuit.now c.args.leaves.now c.args.root c.loop-node.gone c.loop-node.met.keys c.loop-node.invariant past
