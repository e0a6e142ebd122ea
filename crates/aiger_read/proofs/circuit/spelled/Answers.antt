-- The parts are those of a circuit that is sound unless it has a circle.
use Rattle.std.proofs.Common.{◌≡◌, ℕ, ◌≤◌, List, map, Option, sym, ap, ap₂, ◌∙◌, subst}
use Rattle.tm_circuit.specs.Plain.{greatest}
use Rattle.tm_circuit.specs.Build as build
use Rattle.aiger_read.specs.Names.{used, run_in, joiner_for}
use Rattle.aiger_read.specs.Circuit.{circuit_with}
use Rattle.aiger_read.specs.Steps.{maybe_texts}
use Rattle.aiger_read.specs.Making.{IsLaid, sections_of}
use Rattle.aiger_read.proofs.NamingLemmas.{greatest-usable, used_usable}
use Rattle.aiger_read.proofs.LaidLemmas.{are_named, laid}
use Rattle.aiger_read.proofs.circuit.spelled.Goals as goal

pub joiner-requires : goal.joiner-requires
joiner-requires c =
    let given = maybe_texts c.args.given.now in
    let names : maybe_texts c.deref.result.now ≡ used c.args.name given = ap maybe_texts c.deref.ensures.value ∙ c.in_ok-names.ensures.names in
    subst (λ (ns : List (Option (List ℕ))). greatest (map run_in ns) ≤ 16) (sym names) (greatest-usable c.args.name (used c.args.name given) (used_usable c.args.name given))

pub built-requires : goal.built-requires
built-requires c =
    let given = maybe_texts c.args.given.now in
    let h = c.args.header.now in
    let s = sections_of c.args.sections.now in
    let first : maybe_texts c.deref.result.now ≡ used c.args.name given = ap maybe_texts c.deref.ensures.value ∙ c.in_ok-names.ensures.names in
    let names : maybe_texts c.deref-2.result.now ≡ used c.args.name given = ap maybe_texts c.deref-2.ensures.value ∙ c.in_ok-names.ensures.names in
    let joiner : c.deref-3.result.now ≡ joiner_for (used c.args.name given) = c.deref-3.ensures.value ∙ c.in_ok-joiner.ensures ∙ ap joiner_for first in
    let is : build.circuit_of c.in_ok-parts.parts ≡ circuit_with h (joiner_for (used c.args.name given)) (used c.args.name given) s
    = c.in_ok-parts.ensures ∙ ap₂ (λ (j : List ℕ) (ns : List (Option (List ℕ))). circuit_with h j ns s) joiner names in
    subst IsLaid (sym is) (laid c.args.name h (used c.args.name given) s (are_named c.args.name h given s c.requires.said) c.requires.name c.requires.few)
