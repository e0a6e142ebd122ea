-- `any` tests each word.
use Rattle.std.proofs.Common.{List, ℕ, Bor, length, nat_lt, sym, ◌∙◌, rules, tests}
use Rattle.std.proofs.lemmas.Iterator.{YieldsList-from_slice}
use Rattle.std.proofs.lemmas.Iterator.Search.{any_from_yields_List}
use Rattle.blif_lex.proofs.Lists.{list_any-map}
use Rattle.blif_lex.proofs.rules.has_long_word.Goals as goal

pub returns : goal.returns
returns c =
    any_from_yields_List (λ (w : Bor (List ℕ)). nat_lt c.args.name (length w.now)) _ _ _ c.any.ensures.ran (YieldsList-from_slice c.args.names.now cc) (λ x b q k. search (rules, tests))
    ∙ sym (list_any-map (λ (n : List ℕ). nat_lt c.args.name (length n)) (λ (w : Bor (List ℕ)). w.now) c.args.names.now)
