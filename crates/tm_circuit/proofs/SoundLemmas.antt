-- A draft without faults, with its ranks, is a sound circuit.
use Rattle.std.proofs.Common.{◌≤◌, subst, arith}
use Rattle.std.proofs.lemmas.List.Sums.{count_by-le-length}
use Rattle.tm_circuit.specs.declared.draft.Draft.{Draft}
use Rattle.tm_circuit.specs.declared.depths.Ranking.{Ranking}
use Rattle.tm_circuit.specs.Plain.{is_input, is_latch, latch_count}
use Rattle.tm_circuit.specs.Sound.{IsSound, IsPlaced}
use Rattle.tm_circuit.specs.Draft.{plain_of_draft, IsLaidOut, IsLawful}
use Rattle.tm_circuit.specs.Descent.{IsRanking}

pub sound_from : (d : Draft) (r : Ranking) → IsLaidOut d → IsLawful (plain_of_draft d) → IsRanking (plain_of_draft d).drives r → IsSound (plain_of_draft d)
sound_from d r laid lawful ranking = record {
  few = lawful.few;
  named = laid.named;
  placed = λ s e at. subst (λ n. IsPlaced n (latch_count (plain_of_draft d).drives) s e) laid.inputs (subst (λ n. IsPlaced d.inputs n s e) laid.latches (laid.placed s e at));
  range = lawful.range;
  names = lawful.names;
  distinct = lawful.distinct;
  outputs = lawful.outputs;
  ranked = ranking.rises;
  bounded = ranking.bounded;
}

-- there are few inputs and few latches
pub inputs_few : (d : Draft) → IsLaidOut d → IsLawful (plain_of_draft d) → d.inputs ≤ 900000
inputs_few d laid lawful = omega (arith, laid.inputs, lawful.few, count_by-le-length is_input (plain_of_draft d).drives)

pub latches_few : (d : Draft) → IsLaidOut d → IsLawful (plain_of_draft d) → d.latches ≤ 900000
latches_few d laid lawful = omega (arith, laid.latches, lawful.few, count_by-le-length is_latch (plain_of_draft d).drives)
