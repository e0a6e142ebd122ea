use Rattle.std.proofs.Common.{refl}
use Rattle.tm_flow.proofs.SearchLemmas.{ok_as, meets_named}
use Rattle.tm_flow.proofs.search.meet_at.Goals as goal

pub returns-clause-meets : goal.returns-clause-meets
returns-clause-meets g c =
    ok_as c.meet.result (λ m. meets_named c.in_ok-number.number c.args.side c.args.step (refl, refl) c.in_ok-number.ensures m) c.meet.ensures.meets
