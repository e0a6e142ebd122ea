use Rattle.tm_unroll.specs.Mappings.{tables_of}
use Rattle.tm_texts.proofs.AbsorbedLemmas.{kept_period}
use Rattle.tm_texts.proofs.map.least_mapping.Goals as goal

pub returns-clause-least : goal.returns-clause-least
returns-clause-least c =
    let circuit = c.args.circuit.now in
    let least = c.in_ok-least.least in
    let law = c.least_is_period.ensures in
    let sound = c.signals.ensures.sound in
    let is = c.in_ok-least.ensures.least in
    let chosen = tables_of c.in_ok-chosen.chosen in
    let recovered = c.in_ok-recovered.ensures in
    let absorbed = c.in_ok-mapping.ensures in
    let none = (law.least circuit c.args.k c.args.d least sound is).none_smaller in
    let (period, period_is) = c.one_period.ensures.some 0 (λ _. 0) circuit c.args.k c.args.d (tables_of c.in_ok-mapping.mapping) sound absorbed.lawful in
    record {
      lawful = absorbed.lawful;
      period_is =
          kept_period chosen (tables_of c.in_ok-mapping.mapping) least.period period
          (law.period circuit c.args.k c.args.d least chosen sound is c.in_ok-chosen.ensures.chosen) period_is
          (λ most within. absorbed.within most (recovered.within most within))
          (none (tables_of c.in_ok-mapping.mapping) period absorbed.lawful period_is);
      least = none;
      absorbed = absorbed.absorbed.none;
    }
