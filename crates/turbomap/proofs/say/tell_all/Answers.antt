use Rattle.std.proofs.Common.{◌≡◌, ◌<◌, ◌∙◌, [], map, length, get_or, ap, sym, arith}
use Rattle.std.proofs.lemmas.List.{get_or-map, length-map}
use Rattle.turbomap.specs.Command.{spoken}
use Rattle.turbomap.proofs.Lines.{one_line, failed_line, ok_then, err_then}
use Rattle.turbomap.proofs.say.tell_all.Goals as goal

pub loop-line-preserved : goal.loop-line-preserved
loop-line-preserved g c =
    let lines = c.args.lines.now in
    let line = c.line-item.result in
    let index = c.loop-line.line-index in
    let below : index < length (map (λ l. l.items) lines) = omega (arith, length-map lines (λ l. l.items), c.loop-line-test.true) in
    let at : get_or (map (λ l. l.items) lines) index [] ≡ line.items = get_or-map (λ l. l.items) lines index line [] c.loop-line-test.true ∙ ap (λ l. l.items) (sym c.line-item.is) in
    one_line _ _ _ _ _ _ _ index line.items c.loop-line.invariant below at c.line.ensures.counts
    (rw c.deref.ensures.value at (ok_then c.line.result _ (sym c.is_err.ensures.value ∙ c.if-is_err.false) c.line.ensures.whole))

pub returns-then-is_err-clause-part : goal.returns-then-is_err-clause-part
returns-then-is_err-clause-part g c =
    let lines = c.args.lines.now in
    let line = c.line-item.result in
    let index = c.loop-line.line-index in
    let below : index < length (map (λ l. l.items) lines) = omega (arith, length-map lines (λ l. l.items), c.loop-line-test.true) in
    let at : get_or (map (λ l. l.items) lines) index [] ≡ line.items = get_or-map (λ l. l.items) lines index line [] c.loop-line-test.true ∙ ap (λ l. l.items) (sym c.line-item.is) in
    failed_line (spoken g.W.Say.said g.W.Say.faults c.args.say.now c.line.new.self) _ _ (map (λ l. l.items) lines) index line.items c.loop-line.invariant below at
    (err_then c.line.result _ (sym c.is_err.ensures.value ∙ c.if-is_err.true) c.line.ensures.cause)
    (rw c.deref.ensures.value at (err_then c.line.result _ (sym c.is_err.ensures.value ∙ c.if-is_err.true) c.line.ensures.part))
