use Rattle.std.proofs.Common.{rules, sym, ◌∙◌}
use Rattle.std.proofs.lemmas.Slice.Eq.{slice_eq-Decides}
use Rattle.cert_check.proofs.agreement.is_same_row.Goals as goal

pub returns : goal.returns
returns c =
    let same = slice_eq-Decides (λ a b. search rules) c.places.result.now c.places-2.result.now c.eq.result c.eq.ensures in
    (λ yes. sym c.places.ensures ∙ (same.0 yes ∙ c.places-2.ensures), λ is. same.1 (c.places.ensures ∙ (is ∙ sym c.places-2.ensures)))
