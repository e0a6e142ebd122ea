-- the formals so far are apart
use Rattle.std.proofs.Common.{◌≡◌, [], take, drop}
use Rattle.blif_unit.specs.Unit.{repeats}
use Rattle.blif_flat.specs.Sites.{formals_bound}
use Rattle.blif_flat.proofs.sites.bound_formals.Given as goal

abbrev pub invariant-loop-binding : goal.invariant-loop-binding
invariant-loop-binding l =
    (l.formals ≡ formals_bound (take l.binding-index l.bindings))
    × (repeats [] (formals_bound l.bindings) ≡ repeats (formals_bound (take l.binding-index l.bindings)) (formals_bound (drop l.binding-index l.bindings)))
