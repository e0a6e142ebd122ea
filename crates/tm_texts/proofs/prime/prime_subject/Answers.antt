use Rattle.std.proofs.Common.{arith}
use Rattle.cert_text.specs.Certificates.{certificate_of}
use Rattle.tm_texts.proofs.prime.prime_subject.Goals as goal

pub returns : goal.returns
returns c =
    let subject = c.args.subject.now in
    let mapped = c.in_ok-mapped.mapped.circuit in
    let circuit = c.in_ok-circuit.circuit in
    let cert = certificate_of c.in_ok-mapped.mapped.cert in
    let made = c.in_ok-mapped.ensures in
    let least = made.least in
    let primed = c.in_ok-circuit.ensures in
    let sound = c.one_joined.ensures.sound subject least.joined c.signals.ensures.sound least.joined_is in
    let values = c.single_rows_have_values.ensures least.joined cert.tables mapped least.mapped_is in
    let rows = c.primed_is_mapped.ensures.rows least.joined cert.tables mapped circuit values primed.primed in
    record {
      sound = primed.sound;
      same = c.equivalence.ensures.transitive subject mapped circuit made.sound made.same primed.same;
      narrow = omega (arith, made.narrow, primed.large.widest);
      period_is = (primed.period cert.period).0 made.period_is;
      least = record {
        joined = least.joined;
        joined_is = least.joined_is;
        least = least.least;
        mapped_is = rows;
        told = λ others lawful is.
            c.one_mapping.ensures least.joined c.args.k c.args.k c.args.d c.args.d others cert.tables circuit sound c.requires.lags c.requires.lags lawful
            least.least.lawful is rows;
      };
      certified = record {
        version_is = made.certified.version_is;
        accepted = c.primed_is_accepted.ensures subject mapped circuit cert c.args.k c.args.d made.certified.accepted primed.primed;
        spelled = made.certified.spelled;
        short = made.certified.short;
      };
    }

pub with_prime_covers-requires : goal.with_prime_covers-requires
with_prime_covers-requires c = let narrow = c.in_ok-mapped.ensures.narrow in omega (arith, narrow, c.requires.tables.1)
