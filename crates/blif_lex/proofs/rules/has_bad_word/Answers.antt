-- `any` tests each word.
use Rattle.std.proofs.Common.{List, ℕ, Bor, sym, ◌∙◌, rules, tests}
use Rattle.std.proofs.lemmas.Iterator.{YieldsList-from_slice}
use Rattle.std.proofs.lemmas.Iterator.Search.{any_from_yields_List}
use Rattle.blif_lex.specs.Words.{has_bad_byte}
use Rattle.blif_lex.proofs.Lists.{list_any-map}
use Rattle.blif_lex.proofs.rules.has_bad_word.Goals as goal

pub returns : goal.returns
returns c =
    any_from_yields_List (λ (w : Bor (List ℕ)). has_bad_byte w.now) _ _ _ c.any.ensures.ran (YieldsList-from_slice c.args.line.now cc) (λ x b q k. search (rules, tests))
    ∙ sym (list_any-map has_bad_byte (λ (w : Bor (List ℕ)). w.now) c.args.line.now)
