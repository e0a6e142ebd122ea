-- the longest run so far
use Rattle.std.proofs.Common.{◌≡◌, ◌<◌, ◌^◌, take}
use Rattle.blif_flat.specs.Run.{run_in}
use Rattle.blif_flat.proofs.joiner.in_names.Given as goal

abbrev pub invariant-loop-name : goal.invariant-loop-name
invariant-loop-name l = (l.longest ≡ run_in (take l.name-index l.names)) × (l.longest < 2 ^ 63)
