-- the names so far are there
use Rattle.std.proofs.Common.{◌≡◌, ◌++◌, map, take}
use Rattle.blif_flat.proofs.formals.push_all.Given as goal

abbrev pub invariant-loop-name : goal.invariant-loop-name
invariant-loop-name l = map (λ x. x.now) l.inputs.items ≡ map (λ x. x.now) l.initial.inputs.items ++ take l.name-index l.more
