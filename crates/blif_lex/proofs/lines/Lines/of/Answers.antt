-- Each turn takes one logical line; a line with a fault is the first.
use Rattle.std.proofs.Common.{◌≡◌, ℕ, List, length, map, Bor, arith}
use Rattle.std.proofs.lemmas.Bool.Decides.{nat_tests}
use Rattle.std.proofs.lemmas.List.{length-map, nil_from_length}
use Rattle.std.proofs.lemmas.Result.{err_from_is_err_and}
use Rattle.blif_lex.proofs.Texts.{IsLexed-start, IsLexed-more, first_fault, words_of-end}
use Rattle.blif_lex.proofs.Lawful.{lawful_lines}
use Rattle.blif_lex.proofs.lines.Lines.of.Goals as goal

pub loop-rest-init : goal.loop-rest-init
loop-rest-init c = rw (c.new-words.ensures.items, c.new-spans.ensures.items) (IsLexed-start c.args.name c.args.bindings c.args.text.now)

pub loop-rest-preserved : goal.loop-rest-preserved
loop-rest-preserved c =
    let start : c.len-start.result ≡ length (map (λ (w : Bor (List ℕ)). w.now) c.loop-rest.words.items) = omega (arith, length-map c.loop-rest.words.items (λ (w : Bor (List ℕ)). w.now)) in
    let ends = rw start at c.in_ok-end_line.ensures.ok in
    IsLexed-more _ _ _ _ _ _ _ c.loop-rest.invariant _ _ _ c.in_ok-taken.ensures _ _ ends

pub returns-in_err-end_line-clause-fault : goal.returns-in_err-end_line-clause-fault
returns-in_err-end_line-clause-fault c =
    let p = err_from_is_err_and c.from_residual-in_err-end_line.result c.from_residual-in_err-end_line.ensures.1 in
    let start : c.len-start.result ≡ length (map (λ (w : Bor (List ℕ)). w.now) c.loop-rest.words.items) = omega (arith, length-map c.loop-rest.words.items (λ (w : Bor (List ℕ)). w.now)) in
    let refused = rw start at c.in_err-end_line.ensures.fault in
    rw (p.1, p.2) (first_fault _ _ _ _ _ _ _ c.loop-rest.invariant _ _ _ c.in_ok-taken.ensures _ refused)

pub returns-clause-words : goal.returns-clause-words
returns-clause-words c = words_of-end _ _ _ _ _ _ _ c.loop-rest.invariant (nil_from_length _ (grind (arith, nat_tests)))

pub returns-clause-lawful : goal.returns-clause-lawful
returns-clause-lawful c = lawful_lines c.args.name c.args.bindings c.args.text.now _ (words_of-end _ _ _ _ _ _ _ c.loop-rest.invariant (nil_from_length _ (grind (arith, nat_tests))))
