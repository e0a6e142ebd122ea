-- Membership, properties of each item and lists of different items, by induction.
use Rattle.std.proofs.Common.{◌≡◌, ℕ, ◌+◌, ◌≤◌, ◌<◌, zero, suc, get_or, ◌⊎◌, inl, inr, List, [], ◌∷◌, ◌++◌, length, refl, sym, subst, ◌∙◌, arith}
use Rattle.tm_flow.specs.Lists.{Has, Each, AreApart}

module _ {X : Type 0} where
  pub has_left : (xs ys : List X) (x : X) → Has xs x → Has (xs ++ ys) x
  has_left [] ys x h = elim h [ ]
  has_left (z ∷ xs) ys x (inl e) = inl e
  has_left (z ∷ xs) ys x (inr h) = inr (has_left xs ys x h)

  pub has_right : (xs ys : List X) (x : X) → Has ys x → Has (xs ++ ys) x
  has_right [] ys x h = h
  has_right (z ∷ xs) ys x h = inr (has_right xs ys x h)

  -- an item of two lists joined is an item of one of them
  pub has_either : (xs ys : List X) (x : X) → Has (xs ++ ys) x → Has xs x ⊎ Has ys x
  has_either [] ys x h = inr h
  has_either (z ∷ xs) ys x (inl e) = inl (inl e)
  has_either (z ∷ xs) ys x (inr h) = elim (has_either xs ys x h) [ inl a ↦ inl (inr a) | inr b ↦ inr b ]

  pub each_has : (P : X → Type 0) (xs : List X) → Each P xs → (x : X) → Has xs x → P x
  each_has P [] h x m = elim m [ ]
  each_has P (y ∷ xs) h x (inl e) = subst P e h.0
  each_has P (y ∷ xs) h x (inr m) = each_has P xs h.1 x m

  pub has_get : (xs : List X) (i : ℕ) (d : X) → i < length xs → Has xs (get_or xs i d)
  has_get [] i d h = let c : ⊥ = omega arith in absurd c
  has_get (x ∷ xs) zero d h = inl refl
  has_get (x ∷ xs) (suc i) d h = let lt : i < length xs = omega arith in inr (has_get xs i d lt)

  pub each_from : (P : X → Type 0) (xs : List X) → ((x : X) → Has xs x → P x) → Each P xs
  each_from P [] h = tt
  each_from P (y ∷ xs) h = (h y (inl refl), each_from P xs (λ x m. h x (inr m)))

  pub each_as : (P Q : X → Type 0) → ((x : X) → P x → Q x) → (xs : List X) → Each P xs → Each Q xs
  each_as P Q f [] h = tt
  each_as P Q f (y ∷ xs) h = (f y h.0, each_as P Q f xs h.1)

  pub each_join : (P : X → Type 0) (xs ys : List X) → Each P xs → Each P ys → Each P (xs ++ ys)
  each_join P [] ys h k = k
  each_join P (y ∷ xs) ys h k = (h.0, each_join P xs ys h.1 k)

  pub each_left : (P : X → Type 0) (xs ys : List X) → Each P (xs ++ ys) → Each P xs
  each_left P [] ys h = tt
  each_left P (y ∷ xs) ys h = (h.0, each_left P xs ys h.1)

  pub each_right : (P : X → Type 0) (xs ys : List X) → Each P (xs ++ ys) → Each P ys
  each_right P [] ys h = h
  each_right P (y ∷ xs) ys h = each_right P xs ys h.1

  -- the list without one place of an item
  without : (ys : List X) (x : X) → Has ys x → List X
  without [] x h = elim h [ ]
  without (y ∷ ys) x (inl e) = ys
  without (y ∷ ys) x (inr h) = y ∷ without ys x h

  length-without : (ys : List X) (x : X) (h : Has ys x) → length ys ≡ length (without ys x h) + 1
  unfolding without
  length-without [] x h = elim h [ ]
  length-without (y ∷ ys) x (inl e) = omega arith
  length-without (y ∷ ys) x (inr h) = omega (arith, length-without ys x h)

  has_without : (ys : List X) (x : X) (h : Has ys x) (z : X) → (z ≡ x → ⊥) → Has ys z → Has (without ys x h) z
  unfolding without
  has_without [] x h z ne m = elim h [ ]
  has_without (y ∷ ys) x (inl e) z ne (inl f) = absurd (ne (sym f ∙ e))
  has_without (y ∷ ys) x (inl e) z ne (inr m) = m
  has_without (y ∷ ys) x (inr h) z ne (inl f) = inl f
  has_without (y ∷ ys) x (inr h) z ne (inr m) = inr (has_without ys x h z ne m)

  -- different items of a list are no more than its length
  pub apart_within : (xs ys : List X) → AreApart xs → Each (Has ys) xs → length xs ≤ length ys
  apart_within [] ys a h = omega arith
  apart_within (x ∷ xs) ys a h =
      let rest : Each (Has (without ys x h.0)) xs =
      each_from (Has (without ys x h.0)) xs (λ z m. has_without ys x h.0 z (λ e. a.0 (subst (Has xs) e m)) (each_has (Has ys) xs h.1 z m))
      in omega (arith, length-without ys x h.0, apart_within xs (without ys x h.0) a.1 rest)

  -- one more item that is not there keeps the items apart
  pub apart_push : (xs : List X) (x : X) → AreApart xs → (Has xs x → ⊥) → AreApart (xs ++ x ∷ [])
  apart_push [] x a h = ((λ m. m), tt)
  apart_push (y ∷ xs) x a h =
      ((λ m. elim (has_either xs (x ∷ []) y m) [ inl e ↦ a.0 e | inr e ↦ elim e [ inl f ↦ h (inl (sym f)) | inr g ↦ g ] ]), apart_push xs x a.1 (λ m. h (inr m)))
