-- the indices so far
use Rattle.std.proofs.Common.{◌≡◌, take}
use Rattle.tm_labels.proofs.known.indices.Given as goal

abbrev pub invariant-loop-digit : goal.invariant-loop-digit
invariant-loop-digit l = l.list.items ≡ take l.digit-index l.walk
