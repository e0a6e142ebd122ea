use Rattle.std.proofs.Common.{◌≡◌, take, map}
use Rattle.prime_cover.specs.Found.{row_of}
use Rattle.prime_cover.proofs.primes.cover_of.Given as goal

-- the rows of the cubes up to here
abbrev pub invariant-loop-cube : goal.invariant-loop-cube
invariant-loop-cube l = l.rows.items ≡ map row_of (take l.cube-index l.cubes)
