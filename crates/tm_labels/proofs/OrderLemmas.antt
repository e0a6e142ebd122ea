-- Places in the order in which gates are looked for, as entries come and go.
use Rattle.std.proofs.Common.{◌≡◌, ◌≢◌, ℕ, ◌<◌, inl, inr, List, [], ◌∷◌, length, map, Option, Some, None, get_or, sym, ◌∙◌, ap, subst, arith}
use Rattle.std.specs.Prelude.{Contains, IfSome, IfNone, IsPermutation}
use Rattle.std.proofs.lemmas.List.Sorted.{IsPermutation-map, Contains-permutation, length_permutation}
use Rattle.tm_circuit.proofs.ListLemmas.{contains-first, contains-rest, contains-cases}

module _ {X : Type 0} (f : X → ℕ) (x : X) (old new : List X) where
  -- One more.
  pub place_stays : IsPermutation (x ∷ old) new → (g : ℕ) → Contains (map f old) g → Contains (map f new) g
  place_stays more g there = Contains-permutation (f x ∷ map f old) (map f new) g (IsPermutation-map f (x ∷ old) new more) (contains-rest (f x) (map f old) g there)

  pub place_comes : IsPermutation (x ∷ old) new → Contains (map f new) (f x)
  place_comes more = Contains-permutation (f x ∷ map f old) (map f new) (f x) (IsPermutation-map f (x ∷ old) new more) (contains-first (f x) (map f old))

  -- One less.
  pub place_left : IsPermutation old (x ∷ new) → (g : ℕ) → g ≢ f x → Contains (map f old) g → Contains (map f new) g
  place_left less g differs there =
      elim (contains-cases (f x) (map f new) g (Contains-permutation (map f old) (f x ∷ map f new) g (IsPermutation-map f old (x ∷ new) less) there)) [
        | inl is ↦ absurd (differs (sym is))
        | inr stays ↦ stays
      ]

same_first : {X : Type 0} (xs : List X) (a b : X) → 0 < length xs → a ≡ get_or xs 0 a → b ≡ get_or xs 0 b → a ≡ b
same_first [] a b low here there = absurd (omega arith)
same_first (y ∷ xs) a b low here there = here ∙ sym there

-- The first one goes, where there is one.
pub first_goes : {X : Type 0} (Q : Type 0) (f : X → ℕ) (first : X) (r : Option X) (old new : List X) → first ≡ get_or old 0 first → IfSome r (λ x. x ≡ get_or old 0 x) → IfSome r (λ x. IsPermutation old (x ∷ new))
    → IfNone r ((new ≡ old) × Q) → (g : ℕ) → g ≢ f first → Contains (map f old) g → Contains (map f new) g
first_goes {X} Q f first (Some x) old new at is less none g differs there =
    let long : length (x ∷ new) ≡ length old = length_permutation old (x ∷ new) less in
    let some : 0 < length old = omega (arith, long) in
    place_left f x old new less g (λ same. differs (same ∙ ap f (sym (same_first old first x some at is)))) there
first_goes {X} Q f first None old new at is less none g differs there = subst (λ (l : List X). Contains (map f l) g) (sym none.0) there
