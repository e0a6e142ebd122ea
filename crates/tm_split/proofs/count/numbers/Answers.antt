use Rattle.std.proofs.Common.{◌+◌, ◌<◌, ◌≤◌, ℕ, length, refl, subst, arith}
use Rattle.tm_circuit.specs.Plain.{drive_of}
use Rattle.tm_split.specs.Subject.{first_number}
use Rattle.tm_split.proofs.Numbers.{length-subject_of, numbered_more, numbered_fits}
use Rattle.tm_split.proofs.count.numbers.Goals as goal

pub overflow_cast-number : goal.overflow_cast-number
overflow_cast-number c =
    let few : first_number c.args.k c.args.circuit.now.drives (length c.args.circuit.now.drives) ≤ 100000 = subst (λ (n : ℕ). n ≤ 100000) (length-subject_of c.args.k c.args.circuit.now) c.requires in
    let small : c.loop-s.next + c.extra-more.result < 100000 = numbered_fits c.args.k c.args.circuit.now.drives c.loop-s.s c.loop-s.next c.extra-more.result (drive_of c.driver.result.now) c.loop-s.numbers.items c.loop-s.invariant c.driver.ensures.driver few c.extra-more.ensures in
    omega arith

pub overflow_add-number : goal.overflow_add-number
overflow_add-number c =
    let few : first_number c.args.k c.args.circuit.now.drives (length c.args.circuit.now.drives) ≤ 100000 = subst (λ (n : ℕ). n ≤ 100000) (length-subject_of c.args.k c.args.circuit.now) c.requires in
    let small : c.loop-s.next + c.extra-more.result < 100000 = numbered_fits c.args.k c.args.circuit.now.drives c.loop-s.s c.loop-s.next c.extra-more.result (drive_of c.driver.result.now) c.loop-s.numbers.items c.loop-s.invariant c.driver.ensures.driver few c.extra-more.ensures in
    omega arith

pub overflow_add-next : goal.overflow_add-next
overflow_add-next c =
    let few : first_number c.args.k c.args.circuit.now.drives (length c.args.circuit.now.drives) ≤ 100000 = subst (λ (n : ℕ). n ≤ 100000) (length-subject_of c.args.k c.args.circuit.now) c.requires in
    let small : c.loop-s.next + c.extra-more.result < 100000 = numbered_fits c.args.k c.args.circuit.now.drives c.loop-s.s c.loop-s.next c.extra-more.result (drive_of c.driver.result.now) c.loop-s.numbers.items c.loop-s.invariant c.driver.ensures.driver few c.extra-more.ensures in
    omega arith

pub loop-s-preserved : goal.loop-s-preserved
loop-s-preserved c =
    let few : first_number c.args.k c.args.circuit.now.drives (length c.args.circuit.now.drives) ≤ 100000 = subst (λ (n : ℕ). n ≤ 100000) (length-subject_of c.args.k c.args.circuit.now) c.requires in
    numbered_more c.args.k c.args.circuit.now.drives c.loop-s.s c.loop-s.next c.extra-more.result (c.loop-s.next + c.extra-more.result) (c.loop-s.next + c.extra-more.result + 1) (drive_of c.driver.result.now) c.loop-s.numbers.items c.push.new.self.items c.loop-s.invariant c.driver.ensures.driver few c.extra-more.ensures refl c.in_ok-push.ensures.items refl
