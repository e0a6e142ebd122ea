use Rattle.prime_cover.proofs.NeededLemmas.{IsPruned}
use Rattle.prime_cover.proofs.primes.needed_of.Given as goal

-- the cubes up to here were looked at
abbrev pub invariant-loop-index : goal.invariant-loop-index
invariant-loop-index l = IsPruned l.cubes l.needed.items l.index
