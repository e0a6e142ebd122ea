use Rattle.std.proofs.Common.{arith}
use Rattle.tm_texts.proofs.bound.bound_subject.Goals as goal

pub returns : goal.returns
returns c = record {
  joined = c.in_ok-joined.joined;
  joined_is = c.in_ok-joined.ensures.joined;
  least = c.in_ok-least.ensures.least;
  one_way = c.in_ok-least.ensures.one_way;
}

pub least-requires-clause-narrow : goal.least-requires-clause-narrow
least-requires-clause-narrow c = omega (arith, c.requires.narrow, c.in_ok-joined.ensures.large.widest)

pub least-requires-clause-signals : goal.least-requires-clause-signals
least-requires-clause-signals c =
    (c.joined_fits.ensures c.args.subject.now c.in_ok-joined.joined c.requires.fits c.in_ok-joined.ensures.joined).few
