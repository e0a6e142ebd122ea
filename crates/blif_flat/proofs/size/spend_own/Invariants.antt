-- the names so far are spent
use Rattle.std.proofs.Common.{◌≡◌, ◌+◌, take}
use Rattle.blif_flat.specs.Size.{bytes_of}
use Rattle.blif_flat.proofs.size.spend_own.Given as goal

abbrev pub invariant-loop-name : goal.invariant-loop-name
invariant-loop-name l = l.left + bytes_of (take l.name-index l.names) ≡ l.room
