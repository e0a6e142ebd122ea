-- `position` answers the first place, and the length stands for none.
use Rattle.std.proofs.Common.{◌≡◌, ℕ, ◌≤◌, Some, None, cond, ltb, length, eqb, not, arith, rules, ap, ◌∙◌, tests}
use Rattle.std.specs.List.{position_or_len}
use Rattle.std.specs.Option.{unwrap_or}
use Rattle.std.proofs.lemmas.Bool.Decides.{nat_tests}
use Rattle.std.proofs.lemmas.List.Sums.{prefix_len-le-length}
use Rattle.std.proofs.lemmas.Iterator.{YieldsList-from_slice}
use Rattle.std.proofs.lemmas.Iterator.Search.{position_from_yields_List}
use Rattle.cert_text.proofs.words.dot_place.Goals as goal

found_or : (n m : ℕ) → n ≤ m → unwrap_or (cond (ltb n m) (Some n) None) m ≡ n
found_or n m h = grind (arith, nat_tests)

pub returns-clause-place : goal.returns-clause-place
returns-clause-place c =
    let bytes = c.args.word.now in
    let test = λ (b : ℕ). eqb b 46 in
    c.unwrap_or.ensures
    ∙ ap (λ o. unwrap_or o (length bytes)) (position_from_yields_List test _ _ c.position.result c.position.ensures.ran (YieldsList-from_slice bytes cc) (λ x b q k. search (rules, tests)))
    ∙ found_or (position_or_len test bytes) (length bytes) (prefix_len-le-length (λ b. not (test b)) bytes)
