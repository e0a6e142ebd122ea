-- the longest run so far
use Rattle.std.proofs.Common.{◌≡◌, ◌<◌, ◌^◌, take, flat_map}
use Rattle.blif_unit.specs.Fit.{names_bound}
use Rattle.blif_flat.specs.Run.{run_in}
use Rattle.blif_flat.proofs.joiner.in_bindings.Given as goal

abbrev pub invariant-loop-binding : goal.invariant-loop-binding
invariant-loop-binding l = (l.longest ≡ run_in (flat_map names_bound (take l.binding-index l.bindings))) × (l.longest < 2 ^ 63)
