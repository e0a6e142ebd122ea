-- the drops replay, and the labels at the end refute
use Rattle.std.proofs.Common.{◌≡◌, List, Option, map, IsTrue, ◌∙◌, subst}
use Rattle.tm_replay.specs.declared.label.Label.{Label}
use Rattle.tm_replay.specs.Replays.{drop_of, HaveLost}
use Rattle.tm_replay.specs.Faults.{IsReplayed}
use Rattle.tm_trial_search.proofs.shortening.shorter.Goals as goal

pub shorten-requires-clause-refute : goal.shorten-requires-clause-refute
shorten-requires-clause-refute g c =
    let replayed = rw c.in-Labels.is at c.in_ok-replayed.ensures in
    let lost : IsTrue c.have_lost.result = cc in
    let drops : c.deref.result.now ≡ c.in_ok-drops.drops.items = c.deref.ensures.value in
    rw (← drops) (record {
      replays = replayed.0;
      lost = subst (λ (labels : List (Option Label)). HaveLost (λ _. 0) c.args.circuit.now labels) (c.deref-2.ensures.value ∙ replayed.1) (c.have_lost.ensures.0 lost);
    })
