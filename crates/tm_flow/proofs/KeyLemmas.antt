-- What the look-up of a node says of the mark of its far side.
use Rattle.std.proofs.Common.{◌≡◌, ℕ, ◌<◌, Bool, true, false, cond, true≢false, Some, None, inl, inr, List, length, nat_lt, get_or, refl, sym, ap, subst, ◌∙◌, arith}
use Rattle.std.specs.List.{position_or_len}
use Rattle.std.proofs.lemmas.Bool.{cases_lt}
use Rattle.std.proofs.lemmas.List.Sums.{passes_at_first, fails_before_first}
use Rattle.tm_flow.specs.Lists.{At}
use Rattle.tm_flow.specs.Searches.{far, no_marks, far_under, is_far_met, IsMarked, IsNumbered}
use Rattle.tm_flow.specs.declared.search.Marks.{Marks}
use Rattle.tm_flow.proofs.PlaceLemmas.{at_get_or, get_or_at, at_once, at_within}

module _ {T : Type 0} (eq : T → T → Bool) (same : (x y : T) → eq x y ≡ true → x ≡ y) (self : (x : T) → eq x x ≡ true)
    (nodes : List T) (marks : List Marks) (numbered : IsNumbered nodes marks) where
  -- the first place where the test of v passes is that of v
  place_is : (v : T) (lt : position_or_len (eq v) nodes < length nodes) → At nodes (position_or_len (eq v) nodes) v
  place_is v lt =
      let i : ℕ = position_or_len (eq v) nodes in
      let e : v ≡ get_or nodes i v = same v (get_or nodes i v) (passes_at_first (eq v) nodes v lt) in
      subst (At nodes i) (sym e) (at_get_or nodes i v lt)

  -- a node that is there has such a place
  place_within : (v : T) (i : ℕ) → At nodes i v → position_or_len (eq v) nodes < length nodes
  place_within v i h =
      elim (cases_lt i (position_or_len (eq v) nodes)) [
        | inl before ↦ absurd (true≢false (sym (self v) ∙ ap (eq v) (sym (get_or_at nodes i v v h)) ∙ fails_before_first (eq v) nodes i v before))
        | inr after ↦ omega (arith, at_within nodes i v h)
      ]

  pub met_if : (v : T) → is_far_met eq nodes marks v ≡ true → IsMarked nodes marks (far v)
  met_if v h = by (nat_lt (position_or_len (eq v) nodes) (length nodes)) refl
    where
      by : (b : Bool) → nat_lt (position_or_len (eq v) nodes) (length nodes) ≡ b → IsMarked nodes marks (far v)
      by true e =
          let i : ℕ = position_or_len (eq v) nodes in
          let lt : i < length nodes = grind arith in
          let lt2 : i < length marks = omega (arith, numbered.even) in
          (i, get_or marks i no_marks, place_is v lt, at_get_or marks i no_marks lt2, sym (ap (λ b. far_under marks (cond b (Some i) None)) e) ∙ h)
      by false e = absurd (true≢false (sym h ∙ ap (λ b. far_under marks (cond b (Some (position_or_len (eq v) nodes)) None)) e))

  pub unmet_if : (v : T) → is_far_met eq nodes marks v ≡ false → IsMarked nodes marks (far v) → ⊥
  unmet_if v h k =
      let i : ℕ = position_or_len (eq v) nodes in
      let lt : i < length nodes = place_within v k.0 k.2 in
      let e : nat_lt i (length nodes) ≡ true = grind arith in
      let once : k.0 ≡ i = at_once nodes k.0 i v numbered.apart k.2 (place_is v lt) in
      let is : get_or marks i no_marks ≡ k.1 = get_or_at marks i no_marks k.1 (subst (λ j. At marks j k.1) once k.3) in
      true≢false (sym k.4 ∙ ap (λ m. m.far) (sym is) ∙ sym (ap (λ b. far_under marks (cond b (Some i) None)) e) ∙ h)
