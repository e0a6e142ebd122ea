-- Barriers where fewer nodes may be cut, and barriers of a node from those of a node that it reads.
use Rattle.std.proofs.Common.{◌≡◌, ℕ, ◌<◌, true, false, true≢false, inl, inr, List, [], ◌∷◌, map, refl, sym, ap, subst, ◌∙◌}
use Rattle.std.proofs.lemmas.Bool.{cases_Bool}
use Rattle.std.proofs.lemmas.List.{length-map}
use Rattle.tm_flow.specs.Lists.{Has, Each}
use Rattle.tm_flow.specs.Nets.{Shape, IsIndexWalk, nodes_of}
use Rattle.tm_flow.specs.Cuts.{AreDisjoint, IsFree, IsBarrier}
use Rattle.tm_flow.specs.Barriers.{CutsAtMost, KeepsBarriers, InheritsBarriers, UncutEndsBar}
use Rattle.tm_flow.proofs.ListLemmas.{each_has, each_as}

module _ {T : Type 0} (n m : Shape T) (less : CutsAtMost n m) where
  walk_stays : (x : T) (w : List ℕ) → IsIndexWalk n x w → IsIndexWalk m x w
  walk_stays x [] h = less.ends x ∙ h
  walk_stays x (i ∷ w) h = (subst (λ c. i < c) (sym (less.reads x)) h.0, subst (λ y. IsIndexWalk m y w) (sym (less.read x i h.0)) (walk_stays (n.read x i) w h.1))

  nodes_stay : (x : T) (w : List ℕ) → IsIndexWalk n x w → nodes_of m x w ≡ nodes_of n x w
  nodes_stay x [] h = refl
  nodes_stay x (i ∷ w) h =
      ap (λ y. y ∷ nodes_of m y w) (less.read x i h.0) ∙ ap (λ l. n.read x i ∷ l) (nodes_stay (n.read x i) w h.1)

  uncut_stays : (x : T) → n.may_cut x ≡ false → m.may_cut x ≡ false
  uncut_stays x h = elim (cases_Bool (m.may_cut x)) [ inl e ↦ absurd (true≢false (sym (less.cuts x e) ∙ h)) | inr e ↦ e ]

  disjoint_stays : (x : T) (ws : List (List ℕ)) → Each (IsIndexWalk n x) ws → AreDisjoint n x ws → AreDisjoint m x ws
  disjoint_stays x [] walks d = tt
  disjoint_stays x (w ∷ ws) walks d = (
    (λ u v h may here there.
        d.0 u v h (less.cuts v may) (subst (λ l. Has l v) (nodes_stay x w walks.0) here)
        (subst (λ l. Has l v) (nodes_stay x u (each_has (IsIndexWalk n x) ws walks.1 u h)) there)),
    disjoint_stays x ws walks.1 d.1,
  )

  pub barriers_stay : KeepsBarriers n m
  barriers_stay x k ws (inl (w, is, free)) =
      inl (
        w,
        is,
        record {
          walk = walk_stays x w free.walk;
          uncut = λ v h. uncut_stays v (free.uncut v (subst (λ l. Has l v) (nodes_stay x w free.walk) h));
        },
      )
  barriers_stay x k ws (inr (many, flow)) =
      inr (
        many,
        record {
          walks = each_as (IsIndexWalk n x) (IsIndexWalk m x) (walk_stays x) ws flow.walks;
          disjoint = disjoint_stays x ws flow.walks flow.disjoint;
        },
      )

module _ {T : Type 0} (n : Shape T) where
  module _ (x : T) (i : ℕ) (within : i < n.reads x) (uncut : n.may_cut (n.read x i) ≡ false) where
    walks_from : (ws : List (List ℕ)) → Each (IsIndexWalk n (n.read x i)) ws → Each (IsIndexWalk n x) (map (λ w. i ∷ w) ws)
    walks_from [] h = tt
    walks_from (w ∷ ws) h = ((within, h.0), walks_from ws h.1)

    -- a walk among those with the index in front is one of the walks with it
    among : (ws : List (List ℕ)) (u : List ℕ) → Has (map (λ w. i ∷ w) ws) u → (w : List ℕ) × Has ws w × (u ≡ i ∷ w)
    among [] u h = absurd h
    among (w ∷ ws) u (inl e) = (w, inl refl, sym e)
    among (w ∷ ws) u (inr h) = let r = among ws u h in (r.0, inr r.1, r.2)

    -- a node that may be cut is met after the node that is read
    later : (w : List ℕ) (v : T) → n.may_cut v ≡ true → Has (nodes_of n x (i ∷ w)) v → Has (nodes_of n (n.read x i) w) v
    later w v may (inl e) = absurd (true≢false (sym may ∙ ap n.may_cut (sym e) ∙ uncut))
    later w v may (inr h) = h

    disjoint_from : (ws : List (List ℕ)) → AreDisjoint n (n.read x i) ws → AreDisjoint n x (map (λ w. i ∷ w) ws)
    disjoint_from [] d = tt
    disjoint_from (w ∷ ws) d = (
      (λ u v h may here there.
          let r = among ws u h in
          d.0 r.0 v r.1 may (later w v may here) (later r.0 v may (subst (λ l. Has (nodes_of n x l) v) r.2 there))),
      disjoint_from ws d.1,
    )

    free_from : (w : List ℕ) → IsFree n (n.read x i) w → IsFree n x (i ∷ w)
    free_from w free = record {
      walk = (within, free.walk);
      uncut = λ v h. elim h [ inl e ↦ subst (λ y. n.may_cut y ≡ false) e uncut | inr g ↦ free.uncut v g ];
    }

    barrier_from : (k : ℕ) (ws : List (List ℕ)) → IsBarrier n (n.read x i) k ws → IsBarrier n x k (map (λ w. i ∷ w) ws)
    barrier_from k ws (inl (w, is, free)) = inl (i ∷ w, ap (map (λ u. i ∷ u)) is, free_from w free)
    barrier_from k ws (inr (many, flow)) =
        inr (length-map ws (λ w. i ∷ w) ∙ many, record { walks = walks_from ws flow.walks; disjoint = disjoint_from ws flow.disjoint })

  pub inherits : InheritsBarriers n
  inherits x y i k ws within is uncut barrier =
      barrier_from x i within (ap n.may_cut is ∙ uncut) k ws (subst (λ z. IsBarrier n z k ws) (sym is) barrier)

  pub ends_bar : UncutEndsBar n
  ends_bar x y i k within is uncut end =
      inl (i ∷ [], refl, free_from x i within (ap n.may_cut is ∙ uncut) [] (record { walk = ap n.is_end is ∙ end; uncut = λ v h. absurd h }))
