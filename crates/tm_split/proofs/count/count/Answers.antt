use Rattle.std.proofs.Common.{◌≡◌, ℕ, length, sym, ◌∙◌, ap, subst, arith}
use Rattle.tm_split.specs.Subject.{first_number, subject_of}
use Rattle.tm_split.specs.Counts.{IsCountOf}
use Rattle.tm_split.proofs.Numbers.{length-subject_of}
use Rattle.tm_split.proofs.count.count.Goals as goal

pub returns-clause-count : goal.returns-clause-count
returns-clause-count c =
    let all : c.loop-s.s ≡ length c.args.circuit.now.drives = omega arith in
    let same : first_number c.args.k c.args.circuit.now.drives c.loop-s.s ≡ length (subject_of c.args.k c.args.circuit.now).drives =
    ap (λ s. first_number c.args.k c.args.circuit.now.drives s) all ∙ sym (length-subject_of c.args.k c.args.circuit.now) in
    subst (λ (n : ℕ). IsCountOf c.loop-s.total n) same c.loop-s.invariant
