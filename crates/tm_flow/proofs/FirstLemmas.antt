-- The first unmet node of a walk, step by step.
use Rattle.std.proofs.Common.{◌≡◌, ℕ, ◌+◌, ◌<◌, Bool, true, false, cond, List, [], ◌∷◌, ◌++◌, length, map, take, drop, get_or, Some, option_to_list, refl, sym, ap, ◌∙◌, append_assoc}
use Rattle.std.proofs.lemmas.List.{take_more, append-nil, map-append}
use Rattle.tm_flow.specs.Searches.{first_unmet, all_first_unmet}
use Rattle.tm_flow.specs.declared.flow.Edge.{Edge}
use Rattle.tm_flow.proofs.PlaceLemmas.{drop_more}

module _ {T : Type 0} (met : T → Bool) where
  -- an edge whose node has been met is passed
  pub first_passed : (w : List (Edge T)) (i : ℕ) (e : Edge T) → i < length w → e ≡ get_or w i e → met e.to ≡ true
      → first_unmet met (drop i w) ≡ first_unmet met w → first_unmet met (drop (i + 1) w) ≡ first_unmet met w
  first_passed w i e lt is passed before =
      sym (ap (first_unmet met) (drop_more w i e e lt is) ∙ ap (λ b. cond b (first_unmet met (drop (i + 1) w)) (Some e.to)) passed) ∙ before

  pub first_found : (w : List (Edge T)) (i : ℕ) (e : Edge T) → i < length w → e ≡ get_or w i e → met e.to ≡ false
      → first_unmet met (drop i w) ≡ first_unmet met w → Some e.to ≡ first_unmet met w
  first_found w i e lt is unmet before =
      sym (ap (first_unmet met) (drop_more w i e e lt is) ∙ ap (λ b. cond b (first_unmet met (drop (i + 1) w)) (Some e.to)) unmet) ∙ before

  all_first_join : (ws us : List (List (Edge T))) → all_first_unmet met (ws ++ us) ≡ all_first_unmet met ws ++ all_first_unmet met us
  all_first_join [] us = refl
  all_first_join (w ∷ ws) us =
      ap (λ l. option_to_list (first_unmet met w) ++ l) (all_first_join ws us)
      ∙ sym (append_assoc (option_to_list (first_unmet met w)) (all_first_unmet met ws) (all_first_unmet met us))

  pub all_first_more : {V : Type 0} (f : V → List (Edge T)) (nodes nodes_new : List T) (vs : List V) (i : ℕ) (v : V) (w : List (Edge T)) → i < length vs → v ≡ get_or vs i v → w ≡ f v
      → nodes ≡ all_first_unmet met (map f (take i vs)) → nodes_new ≡ nodes ++ option_to_list (first_unmet met w)
      → nodes_new ≡ all_first_unmet met (map f (take (i + 1) vs))
  all_first_more f nodes nodes_new vs i v w lt is image before step =
      let more : take (i + 1) vs ≡ take i vs ++ v ∷ [] = take_more vs i v lt ∙ ap (λ x. take i vs ++ x ∷ []) (sym is) in
      step ∙ ap (λ l. l ++ option_to_list (first_unmet met w)) before ∙ ap (λ u. all_first_unmet met (map f (take i vs)) ++ option_to_list (first_unmet met u)) image
      ∙ ap (λ l. all_first_unmet met (map f (take i vs)) ++ l) (sym (append-nil (option_to_list (first_unmet met (f v)))))
      ∙ sym (all_first_join (map f (take i vs)) (f v ∷ []))
      ∙ ap (all_first_unmet met) (sym (map-append f (take i vs) (v ∷ [])) ∙ ap (map f) (sym more))
