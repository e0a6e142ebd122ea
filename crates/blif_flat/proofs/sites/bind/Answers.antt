-- The rules are tested in their order.
use Rattle.std.proofs.Common.{◌∙◌, List, ℕ, Bor, None, Some, not, ap, if◌then◌else◌}
use Rattle.std.specs.List.{list_all}
use Rattle.blif_unit.specs.declared.fault.BlifKind.TheVariants.{Unbound}
use Rattle.blif_flat.specs.Places.{is_among}
use Rattle.blif_flat.proofs.LineLemmas.{unknown, repeated, bound_is}
use Rattle.blif_flat.proofs.sites.bind.Goals as goal

pub returns-then-not-are_known : goal.returns-then-not-are_known
returns-then-not-are_known c =
    unknown c.args.formals.now.names c.args.formals.now.inputs.items c.args.bindings.now c.are_known.result c.are_known.ensures c.if-not-are_known.true

pub returns-in_default : goal.returns-in_default
returns-in_default c =
    repeated c.args.formals.now.names c.args.formals.now.inputs.items c.args.bindings.now c.are_known.result c.are_known.ensures c.if-not-are_known.false
    (rw c.in_default.is at c.in_ok-bound.ensures)

pub returns-then-not-are_bound : goal.returns-then-not-are_bound
returns-then-not-are_bound c =
    let all = c.are_bound.ensures ∙ ap (λ xs. list_all (λ (x : Bor (List ℕ)). is_among c.in-Some.bound x.now) xs) c.deref.ensures.value in
    bound_is c.args.formals.now.names c.args.formals.now.inputs.items c.args.bindings.now c.are_known.result c.are_bound.result c.in-Some.bound c.are_known.ensures c.if-not-are_known.false
    (rw c.in-Some.is at c.in_ok-bound.ensures) all
    ∙ ap (λ t. if not t then Some Unbound else None) c.if-not-are_bound.true

pub returns : goal.returns
returns c =
    let all = c.are_bound.ensures ∙ ap (λ xs. list_all (λ (x : Bor (List ℕ)). is_among c.in-Some.bound x.now) xs) c.deref.ensures.value in (
      c.new.ensures,
      bound_is c.args.formals.now.names c.args.formals.now.inputs.items c.args.bindings.now c.are_known.result c.are_bound.result c.in-Some.bound c.are_known.ensures c.if-not-are_known.false
          (rw c.in-Some.is at c.in_ok-bound.ensures) all
          ∙ ap (λ t. if not t then Some Unbound else None) c.if-not-are_bound.false,
    )
