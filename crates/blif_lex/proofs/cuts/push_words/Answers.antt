-- At the end the parts so far are all parts between blanks.
use Rattle.std.proofs.Common.{◌++◌, List, ℕ, Bor, map, length, nat_lt, ap, ◌∙◌, rules, tests}
use Rattle.std.specs.List.{filter}
use Rattle.std.proofs.lemmas.Iterator.Consumers.{YieldsList-end}
use Rattle.std.proofs.lemmas.Iterator.Splits.{YieldsList-from_slice_split}
use Rattle.blif_lex.specs.Words.{is_blank}
use Rattle.blif_lex.proofs.cuts.push_words.Goals as goal

pub returns : goal.returns
returns c =
    let all = YieldsList-end (YieldsList-from_slice_split _ is_blank c.args.bytes.now (cc) (cc) (cc) (λ x b q k. search (rules, tests))) c.loop-word.yielded _ c.loop-word.yielded_by _ _ c.in-None.is c.next.ensures.steps in
    c.loop-word.invariant ∙ ap (λ parts. map (λ (w : Bor (List ℕ)). w.now) c.args.words.now.items ++ filter (λ (w : List ℕ). nat_lt 0 (length w)) parts) all.0
