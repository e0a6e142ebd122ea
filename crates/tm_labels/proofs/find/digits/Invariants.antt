-- the digits so far
use Rattle.std.proofs.Common.{◌≡◌, take}
use Rattle.tm_labels.proofs.find.digits.Given as goal

abbrev pub invariant-loop-index : goal.invariant-loop-index
invariant-loop-index l = l.list.items ≡ take l.index-index l.walk
