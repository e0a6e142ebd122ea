-- the names so far are spent
use Rattle.std.proofs.Common.{◌≡◌, ◌+◌, map, take}
use Rattle.blif_flat.specs.Around.{renamed, context_of}
use Rattle.blif_flat.specs.Size.{bytes_of}
use Rattle.blif_flat.proofs.size.spend_names.Given as goal

abbrev pub invariant-loop-name : goal.invariant-loop-name
invariant-loop-name l = l.left + bytes_of (map (renamed (context_of l.joiner l.around)) (take l.name-index l.names)) ≡ l.room
