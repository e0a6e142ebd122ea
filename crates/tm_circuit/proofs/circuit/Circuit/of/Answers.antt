-- What was worked out of the draft is what the fields keep.
use Rattle.std.proofs.Common.{subst, sym}
use Rattle.tm_circuit.specs.Chain.{IsPeriod}
use Rattle.tm_circuit.specs.Draft.{plain_of_draft}
use Rattle.tm_circuit.proofs.SoundLemmas.{sound_from}
use Rattle.tm_circuit.proofs.PeriodLemmas.{period_is}
use Rattle.tm_circuit.proofs.circuit.Circuit.of.Goals as goal

pub invariant_of-result : goal.invariant_of-result
invariant_of-result c = record {
  sound = sound_from c.args.draft c.args.ranking c.requires.laid_out c.requires.lawful c.requires.ranking;
  inputs = c.requires.laid_out.inputs;
  latches = c.requires.laid_out.latches;
  widest = c.requires.width;
  order = c.requires.ranking.order;
  ranks = record { all = c.requires.ranking.sized; each = c.requires.ranking.ranks };
  sources = c.requires.sources;
  period = subst (λ p. IsPeriod (plain_of_draft c.args.draft) p) (sym c.requires.period)
      (period_is (plain_of_draft c.args.draft) c.args.ranking.ranks.items c.requires.ranking.deepens c.requires.ranking.rises c.requires.ranking.ranks);
}

pub returns-clause-sound : goal.returns-clause-sound
returns-clause-sound c = sound_from c.args.draft c.args.ranking c.requires.laid_out c.requires.lawful c.requires.ranking
