-- The first line of the rest is a row or has a fault.
use Rattle.std.proofs.Common.{◌≡◌, ◌<◌, Option, None, Some, length, sym, ap, ◌∙◌, refl, rules}
use Rattle.tm_sim.specs.declared.vectors.VectorKind.{VectorKind}
use Rattle.tm_sim.specs.Vectors.{fault_in}
use Rattle.tm_sim.proofs.ReadLemmas.{reading-fault, reading-more}
use Rattle.tm_sim.proofs.vectors.read.Goals as goal

pub returns-in-Some-clause-fault : goal.returns-in-Some-clause-fault
returns-in-Some-clause-fault c =
    let rest = c.loop-rest.rest.now in
    let some : 0 < length rest = search rules in
    let found = ap (fault_in c.args.width) (sym c.cut_line.ensures.line) ∙ sym c.fault_in.ensures ∙ c.in-Some.is in
    reading-fault c.args.width c.args.text.now c.loop-rest.bits.items c.loop-rest.steps rest c.in-Some.kind c.loop-rest.invariant some found

none_from : (found : Option VectorKind) → ((kind : VectorKind) → found ≡ Some kind → ⊥) → found ≡ None
none_from None other = refl
none_from (Some kind) other = absurd (other kind refl)

pub loop-rest-preserved : goal.loop-rest-preserved
loop-rest-preserved c =
    let rest = c.loop-rest.rest.now in
    let some : 0 < length rest = search rules in
    let lawful = ap (fault_in c.args.width) (sym c.cut_line.ensures.line) ∙ sym c.fault_in.ensures ∙ none_from c.fault_in.result c.in_default.not-Some in
    let more = reading-more c.args.width c.args.text.now c.loop-rest.bits.items c.loop-rest.steps rest c.loop-rest.invariant some lawful in
    rw (c.in_ok-push_row.ensures, c.cut_line.ensures.line, c.cut_line.ensures.after) more
