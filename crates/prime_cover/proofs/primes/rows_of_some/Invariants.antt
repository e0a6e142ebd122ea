use Rattle.std.proofs.Common.{◌≡◌, ℕ, take}
use Rattle.std.specs.List.{list_any}
use Rattle.tm_bits.specs.Tables.{bit_of}
use Rattle.prime_cover.specs.Found.{has}
use Rattle.prime_cover.proofs.primes.rows_of_some.Given as goal

-- the rows of the cubes up to here
abbrev pub invariant-loop-cube : goal.invariant-loop-cube
invariant-loop-cube l = (row : ℕ) → bit_of l.rows row ≡ list_any (has row) (take l.cube-index l.cubes)
