use Rattle.std.proofs.Common.{◌≤◌, length, subst, refl, arith}
use Rattle.std.proofs.lemmas.Bool.{both_ways, false≢true}
use Rattle.tm_bits.specs.Limits.{most_inputs}
use Rattle.tm_circuit.specs.Plain.{pins_of, drive_of, drive}
use Rattle.tm_unroll.proofs.OwnLemmas.{pins_few}
use Rattle.cert_check.specs.Agreement.{DrivesAgree}
use Rattle.cert_check.proofs.AgreeLemmas.{fits_at, drives_at, drives_zip}
use Rattle.cert_check.proofs.agreement.have_agreeing_drivers.Goals as goal

pub drivers_agree-requires-clause-narrow : goal.drivers_agree-requires-clause-narrow
drivers_agree-requires-clause-narrow c =
    let low = pins_few c.args.one.now.drives c.loop-s.s (omega (arith, c.loop-s-test.true, c.signals-s-end.ensures.count)) in
    let most = c.requires.narrow in
    subst (λ d. length (pins_of d) ≤ most_inputs) c.driver.ensures.drive (omega (arith, low, most))

pub drivers_agree-requires-clause-other_fits : goal.drivers_agree-requires-clause-other_fits
drivers_agree-requires-clause-other_fits c =
    fits_at c.args.other.now.drives c.loop-s.s (drive_of c.driver-in-loop-s.result.now) c.signals-sound.ensures.sound.range.pins c.driver-in-loop-s.ensures.driver

pub returns-then-not-drivers_agree : goal.returns-then-not-drivers_agree
returns-then-not-drivers_agree c = (
  λ yes. absurd (false≢true yes),
  λ zip. absurd (both_ways _ c.if-not-drivers_agree.true (c.drivers_agree.ensures.1
      (subst (λ d. DrivesAgree d (drive_of c.driver-in-loop-s.result.now)) c.driver.ensures.drive
      (subst (λ d. DrivesAgree (drive c.args.one.now c.loop-s.s) d) c.driver-in-loop-s.ensures.drive (drives_at c.args.one.now.drives c.args.other.now.drives zip c.loop-s.s))))),
)

pub returns : goal.returns
returns c =
    let count = c.signals-s-end.ensures.count in (
      λ yes. drives_zip c.args.one.now.drives c.args.other.now.drives c.requires.signals (λ i within. c.loop-s.invariant i (omega (arith, within, count, c.loop-s-test.false))),
      λ same. refl,
    )
