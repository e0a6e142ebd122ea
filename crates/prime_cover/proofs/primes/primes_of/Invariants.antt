use Rattle.prime_cover.proofs.CoverLemmas.{IsFound}
use Rattle.prime_cover.proofs.primes.primes_of.Given as goal

-- the rows up to here were looked at
abbrev pub invariant-loop-row : goal.invariant-loop-row
invariant-loop-row l = IsFound l.table.inputs l.table.words l.primes.items l.had l.row
