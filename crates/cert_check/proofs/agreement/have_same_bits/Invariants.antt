-- the bits so far are the same
use Rattle.std.proofs.Common.{◌≡◌, ℕ, ◌<◌}
use Rattle.tm_bits.specs.Tables.{bit_of}
use Rattle.cert_check.proofs.agreement.have_same_bits.Given as goal

abbrev pub invariant-loop-row : goal.invariant-loop-row
invariant-loop-row l = (k : ℕ) → k < l.row → bit_of l.one.words k ≡ bit_of l.other.words k
