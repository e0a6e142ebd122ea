-- the names so far are the same
use Rattle.std.proofs.Common.{◌≡◌, ℕ, ◌<◌, slice_get}
use Rattle.cert_check.proofs.agreement.have_same_names.Given as goal

abbrev pub invariant-loop-s : goal.invariant-loop-s
invariant-loop-s l = (k : ℕ) → k < l.s → slice_get l.one.names k ≡ slice_get l.other.names k
