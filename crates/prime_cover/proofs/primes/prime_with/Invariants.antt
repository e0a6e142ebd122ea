use Rattle.prime_cover.proofs.GrowLemmas.{IsGrown}
use Rattle.prime_cover.proofs.primes.prime_with.Given as goal

-- the places up to here were tried
abbrev pub invariant-loop-place : goal.invariant-loop-place
invariant-loop-place l = IsGrown l.table.inputs l.table.words l.row l.place l.cube
