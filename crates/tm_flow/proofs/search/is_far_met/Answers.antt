use Rattle.std.proofs.Common.{sym, ap, ◌∙◌, arith}
use Rattle.tm_flow.specs.Searches.{no_marks, far_under}
use Rattle.tm_flow.proofs.PlaceLemmas.{at_named, get_or_at}
use Rattle.tm_flow.proofs.search.is_far_met.Goals as goal

pub returns-in-Some : goal.returns-in-Some
returns-in-Some g c =
    let marks = c.args.met.now.marks.items in
    ap (λ m. m.far) (sym (get_or_at marks c.in-Some.number no_marks c.index.result.now (at_named marks c.in-Some.number c.index.result.now (omega (arith, c.in-Some.ensures.within, c.requires.even)) c.index.ensures)))
    ∙ ap (far_under marks) (sym c.in-Some.is ∙ c.get_index_of.ensures.index)

pub returns-in-None : goal.returns-in-None
returns-in-None g c = ap (far_under c.args.met.now.marks.items) (sym c.in-None.is ∙ c.get_index_of.ensures.index)
