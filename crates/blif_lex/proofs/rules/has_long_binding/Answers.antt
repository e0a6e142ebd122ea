-- `any` tests each binding.
use Rattle.std.proofs.Common.{List, ℕ, Bor, length, nat_lt, sym, ◌∙◌, rules, tests}
use Rattle.std.specs.List.{list_any}
use Rattle.std.proofs.lemmas.Iterator.{YieldsList-from_slice}
use Rattle.std.proofs.lemmas.Iterator.Search.{any_from_yields_List}
use Rattle.blif_lex.specs.Words.{sides_of}
use Rattle.blif_lex.proofs.Lists.{list_any-map}
use Rattle.blif_lex.proofs.rules.has_long_binding.Goals as goal

pub returns : goal.returns
returns c =
    any_from_yields_List (λ (w : Bor (List ℕ)). list_any (λ (n : List ℕ). nat_lt c.args.name (length n)) (sides_of w.now)) _ _ _ c.any.ensures.ran (YieldsList-from_slice c.args.bound.now cc) (λ x b q k. search (rules, tests))
    ∙ sym (list_any-map (λ (w : List ℕ). list_any (λ (n : List ℕ). nat_lt c.args.name (length n)) (sides_of w)) (λ (w : Bor (List ℕ)). w.now) c.args.bound.now)
