-- A signal that was not marked is.
use Rattle.std.proofs.Common.{◌≡◌, ap, true}
use Rattle.std.proofs.Common.{set}
use Rattle.tm_merge.proofs.LeadingLemmas.{mark_new, free_at}
use Rattle.tm_merge.proofs.outputs.Marking.mark.Goals as goal

pub returns-in_ok-push : goal.returns-in_ok-push
returns-in_ok-push c =
    let old = c.args.self.now in
    let at : c.s.inside.0 ≡ c.args.s = c.s.view_is in
    mark_new c.args.s old _ c.requires.marking c.requires.signal
    (free_at old.marks.items c.s.inside.0 c.args.s c.index.result.now at c.index.ensures c.if-not-index.true)
    (ap (λ i. set old.marks.items i true) at) c.in_ok-push.ensures.items
