use Rattle.std.proofs.Common.{◌<◌, length, get_or, set, sym, ap, ◌∙◌, arith}
use Rattle.std.proofs.lemmas.List.Edits.{map_over_more}
use Rattle.tm_flow.specs.Lists.{At}
use Rattle.tm_flow.specs.Searches.{unmet, no_marks}
use Rattle.tm_flow.specs.declared.search.Marks.{Marks}
use Rattle.tm_flow.proofs.PlaceLemmas.{at_get_or, get_or_at}
use Rattle.tm_flow.proofs.search.unmark.Goals as goal

pub loop-marks-preserved : goal.loop-marks-preserved
loop-marks-preserved g c =
    let marks = c.loop-marks.marks-items in
    let i = c.loop-marks.marks-index in
    let first = c.args.met.now.marks.items in
    let lt : i < length marks = omega arith in
    let within : i < length first = omega (arith, ap length c.deref_mut-marks-items.ensures.value) in
    let m : Marks = get_or marks i no_marks in
    let at : At marks i m = at_get_or marks i no_marks lt in
    ap (set marks i) (c.unmet.ensures ∙ ap unmet (get_or_at marks i _ m at)) ∙ map_over_more unmet first marks i m within c.loop-marks.invariant (sym (get_or_at marks i m m at))
