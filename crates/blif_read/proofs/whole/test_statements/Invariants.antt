use Rattle.std.proofs.Common.{◌≡◌, map, take, drop, []}
use Rattle.blif_unit.specs.Unit.{telling_of}
use Rattle.blif_read.specs.Seen.{before_of}
use Rattle.blif_read.specs.Whole.{before, fault_in_statements}
use Rattle.blif_read.proofs.whole.test_statements.Given as goal

abbrev pub invariant-loop-stated : goal.invariant-loop-stated
invariant-loop-stated l = record {
  seen : before_of l.seen ≡ before (map telling_of (take l.stated-index l.body));
  rest : fault_in_statements l.fn.name [] (map telling_of l.body)
      ≡ fault_in_statements l.fn.name (map telling_of (take l.stated-index l.body)) (map telling_of (drop l.stated-index l.body));
}
