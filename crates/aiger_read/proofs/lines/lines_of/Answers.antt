-- Lines are cut from the front, one after another.
use Rattle.std.proofs.Common.{◌≡◌, ℕ, [], ◌∷◌, ◌++◌, List, Bor, sym, ap, ◌∙◌}
use Rattle.std.proofs.lemmas.List.{map-append}
use Rattle.aiger_read.specs.Lines.{without_cr, lines_of}
use Rattle.aiger_read.specs.Steps.{texts}
use Rattle.aiger_read.proofs.LineLemmas.{lines_next, lines_with, lines_without}
use Rattle.aiger_read.proofs.lines.lines_of.Goals as goal
use Rattle.aiger_read.proofs.lines.lines_of.Goals.{then-not-is_empty+in_ok-push-2, else-not-is_empty}

pub loop-line-preserved : goal.loop-line-preserved
loop-line-preserved c =
    let seen : texts c.push.new.self.items ≡ texts c.loop-line.lines.items ++ without_cr c.in-Some.line.now ∷ [] =
    ap texts c.in_ok-push.ensures.items ∙ map-append (λ (w : Bor (List ℕ)). w.now) c.loop-line.lines.items (c.without_cr.result ∷ [])
    ∙ ap (λ x. texts c.loop-line.lines.items ++ x ∷ []) c.without_cr.ensures in
    lines_next c.args.text.now (texts c.loop-line.lines.items) c.loop-line.rest.now c.in-Some.line.now c.in-Some.after.now c.loop-line.invariant c.in-Some.ensures.some
    ∙ ap (λ xs. xs ++ lines_of c.in-Some.after.now) (sym seen)

pub returns : goal.returns
returns c =
    elim c.if-not-is_empty.branch [
      | then-not-is_empty+in_ok-push-2 w ↦
          ap (λ v. texts v.items) w.lines-is ∙ ap texts w.in_ok-push-2.ensures.items ∙ map-append (λ (w : Bor (List ℕ)). w.now) c.loop-line.lines.items (w.unended.result ∷ [])
          ∙ ap (λ x. texts c.loop-line.lines.items ++ x ∷ []) w.unended.ensures
          ∙ sym (lines_with c.args.text.now (texts c.loop-line.lines.items) c.loop-line.rest.now c.loop-line.invariant c.in_default.ensures.none (sym c.is_empty.ensures ∙ w.if-not-is_empty.true))
      | else-not-is_empty w ↦
          ap (λ v. texts v.items) w.lines-is ∙ sym (lines_without c.args.text.now (texts c.loop-line.lines.items) c.loop-line.rest.now c.loop-line.invariant c.in_default.ensures.none (sym c.is_empty.ensures ∙ w.if-not-is_empty.false))
    ]
