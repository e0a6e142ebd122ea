-- the names so far
use Rattle.std.proofs.Common.{◌≡◌, map, take}
use Rattle.blif_flat.specs.Around.{renamed, context_of}
use Rattle.blif_flat.proofs.around.names_in.Given as goal

abbrev pub invariant-loop-name : goal.invariant-loop-name
invariant-loop-name l = l.made.items ≡ map (renamed (context_of l.joiner l.around)) (take l.name-index l.names)
