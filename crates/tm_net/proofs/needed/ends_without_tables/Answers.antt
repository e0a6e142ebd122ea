use Rattle.std.proofs.Common.{◌≡◌, ◌+◌, ℕ, List, length, sym, subst, arith}
use Rattle.tm_circuit.specs.Plain.{drive_of}
use Rattle.tm_net.proofs.EndLemmas.{AreFirstEnds, no_ends, one_end_more, all_ends}
use Rattle.tm_net.proofs.needed.ends_without_tables.Goals as goal

pub loop-s-init : goal.loop-s-init
loop-s-init c = subst (λ (ends : List ℕ). AreFirstEnds c.args.circuit.now 0 ends) (sym c.new-ends.ensures.items) (no_ends c.args.circuit.now)

pub loop-s-preserved : goal.loop-s-preserved
loop-s-preserved c =
    subst (λ (ends : List ℕ). AreFirstEnds c.args.circuit.now (c.loop-s.s + 1) ends) (sym c.in_ok-push.ensures.items)
    (one_end_more c.args.circuit.now c.loop-s.s c.loop-s.ends.items (drive_of c.driver.result.now) c.end_without_table.result c.loop-s.invariant
    c.driver.ensures.drive c.end_without_table.ensures)

pub returns : goal.returns
returns c =
    let all : c.loop-s.s ≡ length c.args.circuit.now.drives = omega arith in
    all_ends c.args.circuit.now c.loop-s.s c.loop-s.ends.items c.loop-s.invariant all
