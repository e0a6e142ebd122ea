use Rattle.std.proofs.Common.{◌≡◌, ◌++◌, Option, Some, None, refl, sym, ap, ◌∙◌, option_to_list}
use Rattle.std.proofs.lemmas.List.{append-nil}
use Rattle.tm_flow.proofs.SearchLemmas.{meets_wait}
use Rattle.tm_flow.proofs.search.meet.Goals as goal

pub returns-in_ok-push-clause-meets : goal.returns-in_ok-push-clause-meets
returns-in_ok-push-clause-meets g c =
    meets_wait c.push.new.self.items (c.in_ok-push.ensures.items ∙ ap (λ o. c.meet_in_hand.new.search.pending.items ++ option_to_list o) (sym c.in-Some.is))
    c.meet_in_hand.ensures.meets

none_from : {X : Type 0} (found : Option X) → ((x : X) → found ≡ Some x → ⊥) → found ≡ None
none_from None other = refl
none_from (Some x) other = absurd (other x refl)

pub returns-in_default-clause-meets : goal.returns-in_default-clause-meets
returns-in_default-clause-meets g c =
    let pending = c.meet_in_hand.new.search.pending.items in
    meets_wait pending (sym (append-nil pending) ∙ ap (λ o. pending ++ option_to_list o) (sym (none_from c.meet_in_hand.result c.in_default.not-Some))) c.meet_in_hand.ensures.meets
