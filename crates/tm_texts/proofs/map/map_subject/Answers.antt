use Rattle.std.proofs.Common.{refl, map, arith}
use Rattle.tm_replay.specs.Replays.{drop_of}
use Rattle.tm_unroll.specs.Mappings.{tables_of}
use Rattle.tm_texts.proofs.map.map_subject.Goals as goal

pub returns : goal.returns
returns c =
    let subject = c.args.subject.now in
    let joined = c.in_ok-joined.joined in
    let circuit = c.in_ok-circuit.circuit in
    let found = c.in_ok-found.found in
    let least = c.in_ok-found.ensures.least in
    let mapped = c.in_ok-circuit.ensures in
    let values = c.single_rows_have_values.ensures joined (tables_of found.mapping) circuit mapped.mapped in
    let accepted = c.made_is_accepted.ensures subject joined circuit c.args.k c.args.d found.period (tables_of found.mapping)
    (map drop_of found.drops.items) c.in_ok-joined.ensures.joined least.lawful least.period_is.greatest values c.in_ok-found.ensures.shown in
    record {
      sound = c.signals-2.ensures.sound;
      same = c.equivalence.ensures.transitive subject joined circuit c.in_ok-joined.ensures.sound c.in_ok-joined.ensures.same mapped.same;
      narrow = mapped.narrow;
      period_is = (mapped.period found.period).0 least.period_is;
      least = record {
        joined = joined;
        joined_is = c.in_ok-joined.ensures.joined;
        least = least;
        mapped_is = mapped.mapped;
        told = λ others lawful is.
            c.one_mapping.ensures joined c.args.k c.args.k c.args.d c.args.d others (tables_of found.mapping) circuit c.in_ok-joined.ensures.sound
            c.requires.lags c.requires.lags lawful least.lawful (c.single_rows_have_values.ensures joined others circuit is) values;
      };
      certified = record {
        version_is = refl;
        accepted = accepted;
        spelled = c.accepted_is_spelled.ensures subject circuit _ c.args.k c.args.d c.signals.ensures.sound c.requires.fits.few c.requires.narrow
            (omega (arith, c.requires.tables.0)) c.requires.tables.1 c.requires.lags accepted;
        short = c.accepted_is_short.ensures subject circuit _ c.args.k c.args.d accepted;
      };
    }
