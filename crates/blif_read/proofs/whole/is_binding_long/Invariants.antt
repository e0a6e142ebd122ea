use Rattle.std.proofs.Common.{◌≡◌, length, drop, flat_map, nat_lt}
use Rattle.std.specs.List.{list_any}
use Rattle.blif_unit.specs.Fit.{names_bound}
use Rattle.blif_read.proofs.whole.is_binding_long.Given as goal

abbrev pub invariant-loop-binding : goal.invariant-loop-binding
invariant-loop-binding l = list_any (λ n. nat_lt l.most (length n)) (flat_map names_bound l.bindings)
    ≡ list_any (λ n. nat_lt l.most (length n)) (flat_map names_bound (drop l.binding-index l.bindings))
