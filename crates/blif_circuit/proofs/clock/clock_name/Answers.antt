-- The first of the statements here and on is that of this statement, or of those after it.
use Rattle.std.proofs.Common.{length, ◌<◌, ◌∙◌, ap, sym, arith}
use Rattle.std.specs.Prelude.{option_copied}
use Rattle.blif_unit.specs.Unit.{clocks_told}
use Rattle.blif_circuit.specs.Circuit.{clock_name}
use Rattle.blif_unit.specs.Unit.{telling_of}
use Rattle.std.proofs.Common.{map}
use Rattle.blif_circuit.proofs.SignalLoops.{first_here, first_later}
use Rattle.blif_circuit.proofs.clock.clock_name.Goals as goal

pub returns-in-Some : goal.returns-in-Some
returns-in-Some c =
    let within : c.loop-stated.stated-index < length c.args.body.now = omega arith in
    first_here clocks_told c.args.body.now c.loop-stated.stated-index c.stated-item.result _ (clock_name (map telling_of c.args.body.now)) within c.stated-item.is c.in-Some.ensures c.loop-stated.invariant

pub loop-stated-preserved : goal.loop-stated-preserved
loop-stated-preserved c =
    let within : c.loop-stated.stated-index < length c.args.body.now = omega arith in
    first_later clocks_told c.args.body.now c.loop-stated.stated-index c.stated-item.result (clock_name (map telling_of c.args.body.now)) within c.stated-item.is
    (ap option_copied (sym c.in_default.is) ∙ c.first_clock.ensures) c.loop-stated.invariant
