-- Counts that do not fall.
use Rattle.std.proofs.Common.{◌≤◌, ℕ, arith}

pub counts_on : (first second third : ℕ) → first ≤ second → second ≤ third → first ≤ third
counts_on first second third one other = omega (arith, one, other)
