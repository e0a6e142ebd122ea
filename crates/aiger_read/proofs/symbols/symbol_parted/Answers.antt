-- The place is what stands before the first blank, the name what stands behind it.
use Rattle.std.proofs.Common.{◌≡◌, ℕ, ◌+◌, ◌-◌, List, length, take, drop, Some, sym, ap, ◌∙◌, arith}
use Rattle.std.proofs.lemmas.List.{take_all, length-drop}
use Rattle.aiger_read.specs.Symbols.{with_name}
use Rattle.aiger_read.proofs.SymbolLemmas.{parted_none, parted_unnumbered, parted_slot}
use Rattle.aiger_read.proofs.symbols.symbol_parted.Goals as goal

pub returns-in_err-blank-clause-none : goal.returns-in_err-blank-clause-none
returns-in_err-blank-clause-none c =
    rw c.from_residual.ensures (parted_none c.args.header.now c.args.letter c.args.rest.now (sym c.blank_in.ensures.place ∙ c.in_err-blank.was))

pub returns-in_err-place-clause-none : goal.returns-in_err-place-clause-none
returns-in_err-place-clause-none c =
    rw c.from_residual-in_err-place.ensures (parted_unnumbered c.args.header.now c.args.letter c.args.rest.now c.in_ok-blank.blank (sym c.blank_in.ensures.place ∙ c.in_ok-blank.was) c.in_err-place.ensures.none)

pub returns-in_err-slot-clause-none : goal.returns-in_err-slot-clause-none
returns-in_err-slot-clause-none c =
    let named = c.in_ok-place.ensures.some in
    rw c.from_residual-in_err-slot.ensures
    (parted_slot c.args.header.now c.args.letter c.args.rest.now c.in_ok-blank.blank c.in_ok-place.place (sym c.blank_in.ensures.place ∙ c.in_ok-blank.was) named.0 named.1
    ∙ ap (with_name (drop (c.in_ok-blank.blank + 1) c.args.rest.now)) (sym c.slot_of.ensures ∙ c.in_err-slot.was))

pub returns-clause-some : goal.returns-clause-some
returns-clause-some c =
    let named = c.in_ok-place.ensures.some in
    let rest : List ℕ = c.args.rest.now in
    let blank : ℕ = c.in_ok-blank.blank in
    let whole : take (length rest - (blank + 1)) (drop (blank + 1) rest) ≡ drop (blank + 1) rest = take_all (length rest - (blank + 1)) (drop (blank + 1) rest) (omega (arith, length-drop (blank + 1) rest)) in
    parted_slot c.args.header.now c.args.letter c.args.rest.now c.in_ok-blank.blank c.in_ok-place.place (sym c.blank_in.ensures.place ∙ c.in_ok-blank.was) named.0 named.1
    ∙ ap (with_name (drop (c.in_ok-blank.blank + 1) c.args.rest.now)) (sym c.slot_of.ensures ∙ c.in_ok-slot.was)
    ∙ ap (λ (name : List ℕ). Some (c.in_ok-slot.slot, name)) (sym whole)
