-- the drives so far agree
use Rattle.std.proofs.Common.{ℕ, ◌<◌}
use Rattle.tm_circuit.specs.Plain.{drive}
use Rattle.cert_check.specs.Agreement.{DrivesAgree}
use Rattle.cert_check.proofs.agreement.have_agreeing_drivers.Given as goal

abbrev pub invariant-loop-s : goal.invariant-loop-s
invariant-loop-s l = (k : ℕ) → k < l.s → DrivesAgree (drive l.one k) (drive l.other k)
