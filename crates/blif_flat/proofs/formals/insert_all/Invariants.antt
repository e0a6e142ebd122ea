-- the names so far are there
use Rattle.std.proofs.Common.{take}
use Rattle.blif_flat.specs.Sites.{Joins}
use Rattle.blif_flat.proofs.formals.insert_all.Given as goal

abbrev pub invariant-loop-name : goal.invariant-loop-name
invariant-loop-name l = Joins l.initial.names (take l.name-index l.more) l.names
