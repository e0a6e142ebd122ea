-- `all` tests each word.
use Rattle.std.proofs.Common.{List, ℕ, Bor, sym, ◌∙◌, rules, tests}
use Rattle.std.proofs.lemmas.Iterator.{YieldsList-from_slice}
use Rattle.std.proofs.lemmas.Iterator.Search.{all_from_yields_List}
use Rattle.blif_models.specs.Several.{is_binding}
use Rattle.blif_models.proofs.WordLemmas.{list_all-texts}
use Rattle.blif_models.proofs.several.are_bindings.Goals as goal

pub returns : goal.returns
returns c =
    all_from_yields_List (λ (w : Bor (List ℕ)). is_binding w.now) _ _ _ c.all.ensures.ran (YieldsList-from_slice c.args.words.now cc) (λ x b q k. search (rules, tests))
    ∙ sym (list_all-texts is_binding c.args.words.now)
