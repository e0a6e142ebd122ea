-- Settlings of all gates keep and lose outputs as those of the gates that lead to an output.
use Rattle.std.proofs.Common.{◌≡◌, suc, arith}
use Rattle.tm_cover.proofs.LeadLemmas.{settled_for_outputs}
use Rattle.tm_search.proofs.LeastLemmas.{at_keeps, below_loses}
use Rattle.tm_search.proofs.least.least_period.Goals as goal

pub returns-then-period-eq0-clause-least : goal.returns-then-period-eq0-clause-least
returns-then-period-eq0-clause-least c =
    let found = c.in_ok-period.ensures in
    let at = c.in_ok-at.ensures in
    record {
      at = record {
        target = at.target;
        settled = settled_for_outputs 0 c.args.circuit.now c.args.k c.args.d c.in_ok-at.at at.settled;
        kept = at_keeps 0 c.args.circuit.now c.args.k c.args.d c.signals-sound.ensures.sound c.in_ok-period.field-0 found.is_least c.in_ok-at.at at.settled.led at.target;
      };
      below = c.if-period-eq0.true;
    }

pub returns-clause-least : goal.returns-clause-least
returns-clause-least c =
    let found = c.in_ok-period.ensures in
    let at = c.in_ok-at.ensures in
    let below = c.in_ok-below.ensures in
    let some = c.if-period-eq0.false in
    let less = below.target in
    let target : suc c.in_ok-below.below.target ≡ c.in_ok-period.field-0.period = omega (arith, less, some) in
    record {
      at = record {
        target = at.target;
        settled = settled_for_outputs 0 c.args.circuit.now c.args.k c.args.d c.in_ok-at.at at.settled;
        kept = at_keeps 0 c.args.circuit.now c.args.k c.args.d c.signals-sound.ensures.sound c.in_ok-period.field-0 found.is_least c.in_ok-at.at at.settled.led at.target;
      };
      below = record {
        target = target;
        led = below.settled.led;
        lost = below_loses 0 c.args.circuit.now c.args.k c.args.d c.signals-sound.ensures.sound c.in_ok-period.field-0 found.is_least c.in_ok-below.below
            (settled_for_outputs 0 c.args.circuit.now c.args.k c.args.d c.in_ok-below.below below.settled) target;
      };
    }
