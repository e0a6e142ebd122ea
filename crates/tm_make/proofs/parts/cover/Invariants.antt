use Rattle.std.proofs.Common.{◌≡◌, take}
use Rattle.tm_make.proofs.parts.cover.Given as goal

-- the rows up to here
abbrev pub invariant-loop-places : goal.invariant-loop-places
invariant-loop-places l = l.all.items ≡ take l.places-index l.rows
