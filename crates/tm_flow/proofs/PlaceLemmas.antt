-- The item with an index.
use Rattle.std.proofs.Common.{◌≡◌, ℕ, ◌+◌, ◌<◌, zero, suc, ◌⊎◌, inl, inr, List, [], ◌∷◌, ◌++◌, length, Some, slice_get, get_or, take, drop, map, insert, remove, add-one, All, refl, sym, ap, subst, ◌∙◌, arith}
use Rattle.std.proofs.lemmas.List.{take_more, map-append}
use Rattle.tm_flow.specs.Lists.{Has, Each, AreApart, At}

module _ {X : Type 0} where
  pub at_from_get : (xs : List X) (i : ℕ) (x : X) → slice_get xs i ≡ Some x → At xs i x
  at_from_get [] i x h = cc
  at_from_get (y ∷ ys) zero x h = cc
  at_from_get (y ∷ ys) (suc i) x h = at_from_get ys i x h

  pub at_within : (xs : List X) (i : ℕ) (x : X) → At xs i x → i < length xs
  at_within [] i x h = absurd h
  at_within (y ∷ ys) zero x h = omega arith
  at_within (y ∷ ys) (suc i) x h = omega (arith, at_within ys i x h)

  pub at_has : (xs : List X) (i : ℕ) (x : X) → At xs i x → Has xs x
  at_has [] i x h = absurd h
  at_has (y ∷ ys) zero x h = inl h
  at_has (y ∷ ys) (suc i) x h = inr (at_has ys i x h)

  -- one item has the index
  pub at_same : (xs : List X) (i : ℕ) (x y : X) → At xs i x → At xs i y → x ≡ y
  at_same [] i x y h k = absurd h
  at_same (z ∷ zs) zero x y h k = sym h ∙ k
  at_same (z ∷ zs) (suc i) x y h k = at_same zs i x y h k

  -- one index has the item
  pub at_once : (xs : List X) (i j : ℕ) (x : X) → AreApart xs → At xs i x → At xs j x → i ≡ j
  at_once [] i j x a h k = absurd h
  at_once (z ∷ zs) zero zero x a h k = refl
  at_once (z ∷ zs) zero (suc j) x a h k = absurd (a.0 (subst (Has zs) (sym h) (at_has zs j x k)))
  at_once (z ∷ zs) (suc i) zero x a h k = absurd (a.0 (subst (Has zs) (sym k) (at_has zs i x h)))
  at_once (z ∷ zs) (suc i) (suc j) x a h k = ap suc (at_once zs i j x a.1 h k)

  pub at_left : (xs ys : List X) (i : ℕ) (x : X) → At xs i x → At (xs ++ ys) i x
  at_left [] ys i x h = absurd h
  at_left (z ∷ zs) ys zero x h = h
  at_left (z ∷ zs) ys (suc i) x h = at_left zs ys i x h

  -- an item of two lists joined is one of the first, or one of the second at the rest of the index
  pub at_either : (xs ys : List X) (i : ℕ) (x : X) → At (xs ++ ys) i x → At xs i x ⊎ ((j : ℕ) × (i ≡ length xs + j) × At ys j x)
  at_either [] ys i x h = inr (i, omega arith, h)
  at_either (z ∷ zs) ys zero x h = inl h
  at_either (z ∷ zs) ys (suc i) x h = elim (at_either zs ys i x h) [ inl a ↦ inl a | inr b ↦ inr (b.0, omega (arith, b.1), b.2) ]

  -- each item has an index
  pub at_some : (xs : List X) (i : ℕ) → i < length xs → (x : X) × At xs i x
  at_some [] i h = let c : ⊥ = omega arith in absurd c
  at_some (y ∷ ys) zero h = (y, refl)
  at_some (y ∷ ys) (suc i) h = let lt : i < length ys = omega arith in at_some ys i lt

  pub has_at : (xs : List X) (x : X) → Has xs x → (i : ℕ) × At xs i x
  has_at [] x h = absurd h
  has_at (y ∷ ys) x (inl e) = (0, e)
  has_at (y ∷ ys) x (inr h) = let r : (i : ℕ) × At ys i x = has_at ys x h in (suc r.0, r.1)

  pub each_at : (P : X → Type 0) (xs : List X) (i : ℕ) (x : X) → Each P xs → At xs i x → P x
  each_at P [] i x h k = absurd k
  each_at P (y ∷ ys) zero x h k = subst P k h.0
  each_at P (y ∷ ys) (suc i) x h k = each_at P ys i x h.1 k

  pub at_get_or : (xs : List X) (i : ℕ) (d : X) → i < length xs → At xs i (get_or xs i d)
  at_get_or [] i d h = let c : ⊥ = omega arith in absurd c
  at_get_or (x ∷ xs) zero d h = refl
  at_get_or (x ∷ xs) (suc i) d h = let lt : i < length xs = omega arith in at_get_or xs i d lt

  pub at_named : (xs : List X) (i : ℕ) (x : X) → i < length xs → x ≡ get_or xs i x → At xs i x
  at_named xs i x lt is = subst (At xs i) (sym is) (at_get_or xs i x lt)

  pub get_or_at : (xs : List X) (i : ℕ) (d x : X) → At xs i x → get_or xs i d ≡ x
  get_or_at [] i d x h = absurd h
  get_or_at (y ∷ ys) zero d x h = h
  get_or_at (y ∷ ys) (suc i) d x h = get_or_at ys i d x h

  -- a list round the item with an index
  pub at_split : (xs : List X) (i : ℕ) (x : X) → At xs i x → xs ≡ take i xs ++ x ∷ drop (i + 1) xs
  at_split [] i x h = absurd h
  at_split (y ∷ ys) zero x h = ap (λ z. z ∷ ys) h
  at_split (y ∷ ys) (suc i) x h = rw (add-one (suc i)) (ap (λ l. y ∷ l) (subst (λ k. ys ≡ take i ys ++ x ∷ drop k ys) (add-one i) (at_split ys i x h)))

  pub at_map : {Y : Type 0} (f : X → Y) (xs : List X) (i : ℕ) (y : Y) → At (map f xs) i y → (x : X) × At xs i x × (f x ≡ y)
  at_map f [] i y h = absurd h
  at_map f (x ∷ xs) zero y h = (x, refl, h)
  at_map f (x ∷ xs) (suc i) y h = at_map f xs i y h

  pub at_image : {Y : Type 0} (f : X → Y) (xs : List X) (i : ℕ) (x : X) → At xs i x → At (map f xs) i (f x)
  at_image f [] i x h = absurd h
  at_image f (y ∷ ys) zero x h = ap f h
  at_image f (y ∷ ys) (suc i) x h = at_image f ys i x h

  -- the item with an index replaced by taking it out and putting another in
  pub replaced : {Y : Type 0} (f : X → Y) (xs : List X) (i : ℕ) (x z : X) → At xs i x
      → (before after : List Y) × (map f xs ≡ before ++ f x ∷ after) × (map f (insert (remove xs i) i z) ≡ before ++ f z ∷ after)
  replaced f [] i x z h = absurd h
  replaced f (y ∷ ys) zero x z h = ([], map f ys, ap (λ u. f u ∷ map f ys) h, refl)
  replaced f (y ∷ ys) (suc i) x z h = let r = replaced f ys i x z h in (f y ∷ r.0, r.1, ap (λ l. f y ∷ l) r.2, ap (λ l. f y ∷ l) r.3)

  pub at_after : (xs ys : List X) (x : X) → At (xs ++ x ∷ ys) (length xs) x
  at_after [] ys x = refl
  at_after (z ∷ xs) ys x = at_after xs ys x

  -- the rest of a list from an index on, less its first item
  pub drop_more : (xs : List X) (i : ℕ) (d x : X) → i < length xs → x ≡ get_or xs i d → drop i xs ≡ x ∷ drop (i + 1) xs
  drop_more [] i d x lt is = let c : ⊥ = omega arith in absurd c
  drop_more (y ∷ ys) zero d x lt is = ap (λ z. z ∷ ys) (sym is)
  drop_more (y ∷ ys) (suc i) d x lt is =
      let less : i < length ys = omega arith in
      let e : suc (i + 1) ≡ suc i + 1 = omega arith in
      drop_more ys i d x less is ∙ ap (λ k. x ∷ drop k (y ∷ ys)) e

  -- a list of images with one more
  pub images_more : {W A B : Type 0} (g : W → B) (f : X → A) (h : A → B) (ws ws_new : List W) (w : W) (xs : List X) (i : ℕ) (x : X) → i < length xs → x ≡ get_or xs i x
      → map g ws ≡ map h (map f (take i xs)) → ws_new ≡ ws ++ w ∷ [] → g w ≡ h (f x) → map g ws_new ≡ map h (map f (take (i + 1) xs))
  images_more g f h ws ws_new w xs i x lt is before pushed image =
      let more : take (i + 1) xs ≡ take i xs ++ x ∷ [] = take_more xs i x lt ∙ ap (λ y. take i xs ++ y ∷ []) (sym is) in
      ap (map g) pushed ∙ map-append g ws (w ∷ []) ∙ ap (λ l. l ++ g w ∷ []) before ∙ ap (λ y. map h (map f (take i xs)) ++ y ∷ []) image
      ∙ sym (map-append h (map f (take i xs)) (f x ∷ [])) ∙ ap (map h) (sym (map-append f (take i xs) (x ∷ []))) ∙ ap (λ l. map h (map f l)) (sym more)

  -- what holds at each index holds of each item
  pub all_has : (P : X → Type 0) (xs : List X) → All P xs → (x : X) → Has xs x → P x
  all_has P xs all x h =
      let place : (i : ℕ) × At xs i x = has_at xs x h in
      subst P (get_or_at xs place.0 x x place.1) (all place.0 x (at_within xs place.0 x place.1))

  -- what holds of each image holds of the image of the item with an index
  pub each_image : {Y : Type 0} (f : X → Y) (P : Y → Type 0) (xs : List X) (i : ℕ) (x : X) (y : Y) → i < length xs → x ≡ get_or xs i x → y ≡ f x → Each P (map f xs) → P y
  each_image f P xs i x y lt is image all = subst P (sym image) (subst (λ z. P (f z)) (sym is) (on xs i lt all))
    where
      on : (zs : List X) (j : ℕ) → j < length zs → Each P (map f zs) → P (f (get_or zs j x))
      on [] j l a = let c : ⊥ = omega arith in absurd c
      on (z ∷ zs) zero l a = a.0
      on (z ∷ zs) (suc j) l a = let less : j < length zs = omega arith in on zs j less a.1
