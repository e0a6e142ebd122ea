use Rattle.std.proofs.Common.{sym, subst}
use Rattle.std.specs.Prelude.{List, Option}
use Rattle.std.proofs.lemmas.Bool.{both_ways}
use Rattle.tm_replay.specs.declared.label.Label.{Label}
use Rattle.tm_replay.specs.Replays.{HaveLost}
use Rattle.tm_cover.proofs.LeadLemmas.{settled_for_outputs}
use Rattle.tm_trial_search.proofs.choosing.check.Goals as goal

pub choose-requires-clause-settled : goal.choose-requires-clause-settled
choose-requires-clause-settled g c = settled_for_outputs 0 c.args.circuit.now c.args.row.k c.args.row.d c.in_ok-settled.settled c.in_ok-settled.ensures.settled

pub choose-requires-clause-labelled : goal.choose-requires-clause-labelled
choose-requires-clause-labelled g c lost =
    both_ways _ c.if-have_lost.false
    (c.have_lost.ensures.1 (subst (λ (ls : List (Option Label)). HaveLost (λ _. 0) c.args.circuit.now ls) (sym c.labels.ensures) lost))
