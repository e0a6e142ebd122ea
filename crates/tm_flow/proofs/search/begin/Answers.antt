use Rattle.tm_flow.specs.declared.search.Step.TheVariants.{Cross}
use Rattle.tm_flow.proofs.SearchLemmas.{ok_as, meets_begun}
use Rattle.tm_flow.proofs.search.begin.Goals as goal

pub returns-clause-meets : goal.returns-clause-meets
returns-clause-meets g c =
    ok_as c.meet_at.result
    (λ m. meets_begun c.args.root c.far.result Cross c.far.ensures c.unmark.ensures.nodes c.unmark.ensures.marks c.clear.ensures.items m)
    c.meet_at.ensures.meets
