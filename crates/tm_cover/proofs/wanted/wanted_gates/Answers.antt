-- Each turn goes through the leaves of one wanted gate.
use Rattle.std.proofs.Common.{◌≡◌, ℕ, List, length, refl, subst, arith}
use Rattle.std.specs.Prelude.{Contains}
use Rattle.tm_circuit.proofs.ListLemmas.{contains-none}
use Rattle.tm_unroll.specs.declared.node.Node.{Node}
use Rattle.tm_unroll.proofs.EachLemmas.{none-of}
use Rattle.tm_cover.specs.declared.wanted.Search.{Search}
use Rattle.tm_cover.specs.Wanted.{IsStart, Meets, IsSourceUnder}
use Rattle.tm_cover.proofs.SearchLemmas.{Pops, starts, popped_wanted, turns, ends, turn_smaller}
use Rattle.tm_cover.proofs.wanted.wanted_gates.Goals as goal

pub loop-gate-init : goal.loop-gate-init
loop-gate-init c =
    starts c.args.circuit.now c.args.settled.now.cuts c.in_ok-search.search c.meet_outputs.new.self
    (subst (λ n. IsStart n c.in_ok-search.search) c.signals.ensures.count c.in_ok-search.ensures) c.in_ok-meet_outputs.ensures

pub cut-requires : goal.cut-requires
cut-requires c =
    let p : Search = record { met = c.loop-gate.search.met; left = c.pop.new.self } in
    let pops : Pops c.in-Some.gate c.loop-gate.search p = record { met = refl; left = c.in-Some.ensures.items } in
    let wanted = popped_wanted c.args.circuit.now c.args.settled.now.cuts c.loop-gate.search p c.in-Some.gate c.loop-gate.invariant pops in
    let within = c.requires.signals.gates c.in-Some.gate wanted in
    let sized = c.requires.sized in
    omega (arith, within, sized)

pub meet_leaves-requires-clause-signals : goal.meet_leaves-requires-clause-signals
meet_leaves-requires-clause-signals c =
    let p : Search = record { met = c.loop-gate.search.met; left = c.pop.new.self } in
    let pops : Pops c.in-Some.gate c.loop-gate.search p = record { met = refl; left = c.in-Some.ensures.items } in
    let wanted = popped_wanted c.args.circuit.now c.args.settled.now.cuts c.loop-gate.search p c.in-Some.gate c.loop-gate.invariant pops in
    λ x leaf. c.requires.signals.leaves c.in-Some.gate x wanted (subst (λ (l : List Node). Contains l x) c.cut.ensures leaf)

pub loop-gate-preserved : goal.loop-gate-preserved
loop-gate-preserved c =
    let p : Search = record { met = c.loop-gate.search.met; left = c.pop.new.self } in
    let pops : Pops c.in-Some.gate c.loop-gate.search p = record { met = refl; left = c.in-Some.ensures.items } in
    turns c.args.circuit.now c.args.settled.now.cuts c.loop-gate.search p c.meet_leaves.new.self c.in-Some.gate c.loop-gate.invariant pops
    (subst (λ (l : List Node). Meets (IsSourceUnder c.args.circuit.now.drives l) p c.meet_leaves.new.self) c.cut.ensures c.in_ok-meet_leaves.ensures)

pub loop-gate-smaller : goal.loop-gate-smaller
loop-gate-smaller c =
    let p : Search = record { met = c.loop-gate.search.met; left = c.pop.new.self } in
    let pops : Pops c.in-Some.gate c.loop-gate.search p = record { met = refl; left = c.in-Some.ensures.items } in
    turn_smaller (IsSourceUnder c.args.circuit.now.drives c.cut.result.now) c.loop-gate.search p c.meet_leaves.new.self c.in-Some.gate pops c.in_ok-meet_leaves.ensures

pub returns : goal.returns
returns c =
    let none : length c.loop-gate.search.left.items ≡ 0 = grind (arith, c.in_default.ensures.cases.0) in
    ends c.args.circuit.now c.args.settled.now.cuts c.loop-gate.search c.loop-gate.invariant
    (λ g left. contains-none g (subst (λ (l : List ℕ). Contains l g) (none-of c.loop-gate.search.left.items none) left))
