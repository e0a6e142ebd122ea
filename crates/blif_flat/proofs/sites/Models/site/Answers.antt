-- The number of a name is that of its model, and the formals at it are that model's.
use Rattle.std.proofs.Common.{◌≡◌, ◌∙◌, List, ℕ, Some, None, sym, ap, subst, arith, bytes_eq, position}
use Rattle.std.specs.Prelude.{option_map}
use Rattle.blif_unit.specs.declared.fault.BlifKind.{BlifKind}
use Rattle.blif_flat.proofs.LineLemmas.{missing_fault, number_is, number_within, told_is}
use Rattle.blif_flat.proofs.sites.Models.site.Goals as goal

pub returns-in_default-clause-fault : goal.returns-in_default-clause-fault
returns-in_default-clause-fault c =
    let none : None ≡ position (bytes_eq c.args.model.now) c.args.self.now.names =
    subst (λ (n : List ℕ). None ≡ position (bytes_eq n) c.args.self.now.names) c.bytes.ensures (sym c.in_default.is ∙ c.position.ensures) in
    rw c.at.ensures (ap (option_map (λ (kind : BlifKind). (c.args.line, kind))) (missing_fault c.args.self.now c.requires c.args.model.now c.args.bindings.now none))

pub index-requires : goal.index-requires
index-requires c =
    let at : Some c.in-Some.number ≡ position (bytes_eq c.args.model.now) c.args.self.now.names =
    subst (λ (n : List ℕ). Some c.in-Some.number ≡ position (bytes_eq n) c.args.self.now.names) c.bytes.ensures c.in-Some.ensures in
    let within = number_within c.args.self.now c.requires c.args.model.now c.in-Some.number at in
    omega (arith, within, c.args.self.now.formals.ok.0)

pub returns-in-Ok-clause-site : goal.returns-in-Ok-clause-site
returns-in-Ok-clause-site c =
    let at : Some c.in-Some.number ≡ position (bytes_eq c.args.model.now) c.args.self.now.names =
    subst (λ (n : List ℕ). Some c.in-Some.number ≡ position (bytes_eq n) c.args.self.now.names) c.bytes.ensures c.in-Some.ensures in
    let bound = rw c.in-Ok.is at c.in_ok-site.ensures in (
      bound.0 ∙ ap (λ k. record { model = k; bindings = c.args.bindings.now }) (number_is c.args.self.now c.requires c.args.model.now c.in-Some.number at),
      told_is c.args.self.now c.requires c.args.model.now c.in-Some.number at c.index.result.now c.args.bindings.now c.index.ensures ∙ bound.1,
    )

pub returns-in-Err-clause-fault : goal.returns-in-Err-clause-fault
returns-in-Err-clause-fault c =
    let at : Some c.in-Some.number ≡ position (bytes_eq c.args.model.now) c.args.self.now.names =
    subst (λ (n : List ℕ). Some c.in-Some.number ≡ position (bytes_eq n) c.args.self.now.names) c.bytes.ensures c.in-Some.ensures in
    let bound = rw c.in-Err.is at c.in_ok-site.ensures in
    rw c.at-in-Err.ensures (ap (option_map (λ (kind : BlifKind). (c.args.line, kind)))
    (told_is c.args.self.now c.requires c.args.model.now c.in-Some.number at c.index.result.now c.args.bindings.now c.index.ensures ∙ bound))
