-- Walks are a barrier exactly where the test of walks finds no fault, and what it holds of them on the way.
use Rattle.std.proofs.Common.{◌≡◌, ◌↔◌, ℕ, ◌+◌, ◌<◌, ◌≤◌, zero, suc, Bool, IsTrue, true, false, ◌||◌, not, true≢false, inl, inr, List, [], ◌∷◌, ◌++◌, length, map, get_or, if◌then◌else◌, refl, sym, ap, subst, ◌∙◌, append_assoc, arith}
use Rattle.std.specs.List.{list_any}
use Rattle.std.specs.Bool.{MatchBool}
use Rattle.std.proofs.lemmas.Bool.{cases_lt, cases_Bool}
use Rattle.indexmap.specs.IndexSet.{insert_key}
use Rattle.tm_flow.specs.Lists.{Has, Each, At}
use Rattle.tm_flow.specs.Nets.{Shape, IsIndexWalk, nodes_of}
use Rattle.tm_flow.specs.Cuts.{AreDisjoint, IsBarrier}
use Rattle.tm_flow.specs.Judges.{AreEnough, HasNoWalk, HasShared, Takes, Clashes}
use Rattle.tm_flow.proofs.ListLemmas.{has_left, has_right, has_either, each_has}
use Rattle.tm_flow.proofs.PlaceLemmas.{at_has, at_same, at_within, has_at}

-- what holds of the item with each index holds of each item
pub each_place : {X : Type 0} (P : X → Type 0) (xs : List X) → ((i : ℕ) (x : X) → At xs i x → P x) → Each P xs
each_place P [] h = tt
each_place P (x ∷ xs) h = (h 0 x refl, each_place P xs (λ i y at. h (suc i) y at))

-- the image of the item with an index has the index
pub at_image : {X Y : Type 0} (f : X → Y) (xs : List X) (i : ℕ) (x : X) → i < length xs → x ≡ get_or xs i x → At (map f xs) i (f x)
at_image f [] i x lt is = let c : ⊥ = omega arith in absurd c
at_image f (y ∷ ys) zero x lt is = ap f (sym is)
at_image f (y ∷ ys) (suc i) x lt is = let less : i < length ys = omega arith in at_image f ys i x less is

-- an item with an index that is not below the last one is the last
pub at_last : {X : Type 0} (xs : List X) (at : ℕ) (x : X) → At xs at x → (i : ℕ) (y : X) → i < at + 1 → at ≤ i → At xs i y → y ≡ x
at_last xs at x here i y less more there = let e : i ≡ at = omega arith in at_same xs at y x (subst (λ k. At xs k y) e there) here

module _ {T : Type 0} (eq : T → T → Bool) (same : (x y : T) → eq x y ≡ true → x ≡ y) (self : (x : T) → eq x x ≡ true) where
  -- a test for a node finds it exactly where it is one of the nodes
  found_has : (nodes : List T) (v : T) → list_any (eq v) nodes ≡ true → Has nodes v
  found_has [] v h = absurd (true≢false (sym h))
  found_has (x ∷ xs) v h = by (eq v x) refl (found_has xs v)
    where
      by : (b : Bool) → eq v x ≡ b → (list_any (eq v) xs ≡ true → Has xs v) → Has (x ∷ xs) v
      by true e rest = inl (sym (same v x e))
      by false e rest = inr (rest (sym (ap (λ c. c || list_any (eq v) xs) e) ∙ h))

  has_found : (nodes : List T) (v : T) → Has nodes v → list_any (eq v) nodes ≡ true
  has_found [] v h = absurd h
  has_found (x ∷ xs) v (inl e) = ap (λ c. c || list_any (eq v) xs) (ap (eq v) e ∙ self v)
  has_found (x ∷ xs) v (inr h) = by (eq v x) (has_found xs v h)
    where
      by : (b : Bool) → list_any (eq v) xs ≡ true → (b || list_any (eq v) xs) ≡ true
      by true e = refl
      by false e = e

  module _ (n : Shape T) (node : T) (held taken : List T) (may : n.may_cut node ≡ true) (added : taken ≡ insert_key eq held node) where
    abbrev Outcome : Bool → Type 0
    Outcome b = MatchBool b (Clashes n (node ∷ []) held) (Takes n (node ∷ []) held taken)

    -- a set that has the node already
    clashes_here : list_any (eq node) held ≡ true → Clashes n (node ∷ []) held
    clashes_here any = (node, inl refl, may, found_has held node any)

    -- a set that takes the node
    takes_here : list_any (eq node) held ≡ false → Takes n (node ∷ []) held taken
    takes_here none =
        let is : taken ≡ held ++ node ∷ [] = added ∙ ap (λ b. if b then held else held ++ node ∷ []) none in
        record {
          stays = λ v h. subst (λ l. Has l v) (sym is) (has_left held (node ∷ []) v h);
          takes = λ v h cuts. subst (λ l. Has l v) (sym is) (has_right held (node ∷ []) v h);
          only = λ v h. elim (has_either held (node ∷ []) v (subst (λ l. Has l v) is h)) [
            | inl before ↦ inl before
            | inr here ↦ inr (here, elim here [ inl e ↦ subst (λ y. n.may_cut y ≡ true) e may | inr none ↦ absurd none ])
          ];
          fresh = λ v here cuts h. elim here [
            | inl e ↦ true≢false (sym (has_found held node (subst (Has held) (sym e) h)) ∙ none)
            | inr none ↦ none
          ];
        }

    pub held_or_new : (is_new : Bool) → is_new ≡ not (list_any (eq node) held) → MatchBool (not is_new) (Clashes n (node ∷ []) held) (Takes n (node ∷ []) held taken)
    held_or_new is_new is = by (list_any (eq node) held) refl
      where
        by : (b : Bool) → list_any (eq node) held ≡ b → MatchBool (not is_new) (Clashes n (node ∷ []) held) (Takes n (node ∷ []) held taken)
        by true e = subst Outcome (sym (ap not (is ∙ ap not e))) (clashes_here e)
        by false e = subst Outcome (sym (ap not (is ∙ ap not e))) (takes_here e)

module _ {T : Type 0} (n : Shape T) where
  pub takes_none : (held : List T) → Takes n [] held held
  takes_none held = record {
    stays = λ v h. h;
    takes = λ v h cuts. absurd h;
    only = λ v h. inl h;
    fresh = λ v h cuts. absurd h;
  }

  -- a node that may not be cut is not held
  pub takes_uncut : (node : T) (held : List T) → n.may_cut node ≡ false → Takes n (node ∷ []) held held
  takes_uncut node held uncut = record {
    stays = λ v h. h;
    takes = λ v h cuts. absurd (not_here v h cuts);
    only = λ v h. inl h;
    fresh = λ v h cuts. absurd (not_here v h cuts);
  }
    where
      not_here : (v : T) → Has (node ∷ []) v → n.may_cut v ≡ true → ⊥
      not_here v (inl e) cuts = true≢false (sym cuts ∙ ap n.may_cut (sym e) ∙ uncut)
      not_here v (inr none) cuts = none

  takes_both : (a b held mid taken : List T) → Takes n a held mid → Takes n b mid taken → Takes n (a ++ b) held taken
  takes_both a b held mid taken first second = record {
    stays = λ v h. second.stays v (first.stays v h);
    takes = λ v h cuts. elim (has_either a b v h) [
      | inl left ↦ second.stays v (first.takes v left cuts)
      | inr right ↦ second.takes v right cuts
    ];
    only = λ v h. elim (second.only v h) [
      | inl before ↦ elim (first.only v before) [ inl held ↦ inl held | inr left ↦ inr (has_left a b v left.0, left.1) ]
      | inr right ↦ inr (has_right a b v right.0, right.1)
    ];
    fresh = λ v h cuts held. elim (has_either a b v h) [
      | inl left ↦ first.fresh v left cuts held
      | inr right ↦ second.fresh v right cuts (first.stays v held)
    ];
  }

  -- on the way along a walk: the nodes that were seen are taken, and none of them is of a smaller rank than the one come to
  pub record IsHolding (root : T) (walk : List ℕ) (held : List T) (node : T) (rest : List ℕ) (taken : List T) : Type 0 where
    pub seen : List T
    pub all : nodes_of n root walk ≡ seen ++ nodes_of n node rest
    pub leads : IsIndexWalk n node rest
    pub above : (v : T) → Has seen v → n.rank node ≤ n.rank v
    pub takes : Takes n seen held taken

  pub holding_first : (root : T) (walk : List ℕ) (held : List T) → IsIndexWalk n root walk → IsHolding root walk held root walk held
  holding_first root walk held leads = record { seen = []; all = refl; leads = leads; above = λ v h. absurd h; takes = takes_none held }

  pub holding_last : (root : T) (walk : List ℕ) (held : List T) (node : T) (rest : List ℕ) (taken : List T)
      → IsHolding root walk held node rest taken → rest ≡ [] → Takes n (nodes_of n root walk) held taken
  holding_last root walk held node rest taken h none =
      subst (λ l. Takes n l held taken) (sym (h.all ∙ ap (λ l. h.seen ++ nodes_of n node l) none ∙ no_more h.seen)) h.takes
    where
      no_more : (l : List T) → l ++ [] ≡ l
      no_more [] = refl
      no_more (x ∷ xs) = ap (λ ys. x ∷ ys) (no_more xs)

  module _ (falls : (x : T) (i : ℕ) → i < n.reads x → n.rank (n.read x i) < n.rank x)
      (root : T) (walk : List ℕ) (held : List T) (node : T) (rest : List ℕ) (taken : List T) (h : IsHolding root walk held node rest taken)
      (i : ℕ) (later : List ℕ) (next : rest ≡ i ∷ later) where
    pub next_read : (i < n.reads node) × IsIndexWalk n (n.read node i) later
    next_read = let l : IsIndexWalk n node (i ∷ later) = subst (IsIndexWalk n node) next h.leads in (l.0, l.1)

    module _ (to : T) (is : to ≡ n.read node i) where
      lower : n.rank to < n.rank node
      lower = omega (arith, ap n.rank is, falls node i next_read.0)

      nodes : nodes_of n root walk ≡ h.seen ++ to ∷ nodes_of n to later
      nodes = h.all ∙ ap (λ l. h.seen ++ nodes_of n node l) next ∙ ap (λ y. h.seen ++ y ∷ nodes_of n y later) (sym is)

      pub holding_more : (taken_new : List T) → Takes n (to ∷ []) taken taken_new → IsHolding root walk held to later taken_new
      holding_more taken_new takes = record {
        seen = h.seen ++ to ∷ [];
        all = nodes ∙ sym (append_assoc h.seen (to ∷ []) (nodes_of n to later));
        leads = subst (λ y. IsIndexWalk n y later) (sym is) next_read.1;
        above = λ v there. elim (has_either h.seen (to ∷ []) v there) [
          | inl before ↦ let low = h.above v before in let less = lower in omega arith
          | inr here ↦ elim here [ inl e ↦ omega (arith, ap n.rank e) | inr none ↦ absurd none ]
        ];
        takes = takes_both h.seen (to ∷ []) held taken taken_new h.takes takes;
      }

      -- no node is met twice, so one that is held was held before the walk
      pub holding_clashes : Clashes n (to ∷ []) taken → Clashes n (nodes_of n root walk) held
      holding_clashes (v, here, cuts, there) =
          let is_to : to ≡ v = elim here [ inl e ↦ e | inr none ↦ absurd none ] in
          elim (h.takes.only v there) [
            | inl before ↦ (v, subst (λ l. Has l v) (sym nodes) (has_right h.seen (to ∷ nodes_of n to later) v (inl is_to)), cuts, before)
            | inr seen ↦ let low = h.above v seen.0 in let less = lower in let e = ap n.rank is_to in let c : ⊥ = omega arith in absurd c
          ]

  module _ (x : T) (ws : List (List ℕ)) where
    -- the nodes that may be cut of the walks before an index are held, and no other; each stands on one of these walks alone
    pub record AreHeld (at : ℕ) (now : List T) : Type 0 where
      pub held : (i : ℕ) (w : List ℕ) (v : T) → i < at → At ws i w → Has (nodes_of n x w) v → n.may_cut v ≡ true → Has now v
      pub only : (v : T) → Has now v → (n.may_cut v ≡ true) × ((i : ℕ) × (w : List ℕ) × (i < at) × At ws i w × Has (nodes_of n x w) v)
      pub apart : (i j : ℕ) (u w : List ℕ) (v : T) → i < j → j < at → At ws i u → At ws j w → n.may_cut v ≡ true → Has (nodes_of n x u) v → ¬ Has (nodes_of n x w) v

    pub held_first : (held : List T) → held ≡ [] → AreHeld 0 held
    held_first held none = record {
      held = λ i w v lt. let c : ⊥ = omega arith in absurd c;
      only = λ v h. absurd (subst (λ l. Has l v) none h);
      apart = λ i j u w v lt before. let c : ⊥ = omega arith in absurd c;
    }

    module _ (at : ℕ) (held : List T) (before : AreHeld at held) (w : List ℕ) (here : At ws at w) where
      pub held_more : (taken : List T) → Takes n (nodes_of n x w) held taken → AreHeld (at + 1) taken
      held_more taken takes = record {
        held = λ i u v lt there h cuts. elim (cases_lt i at) [
          | inl less ↦ takes.stays v (before.held i u v less there h cuts)
          | inr more ↦ takes.takes v (subst (λ l. Has (nodes_of n x l) v) (at_last ws at w here i u lt more there) h) cuts
        ];
        only = λ v h. elim (takes.only v h) [
          | inl old ↦ let r = before.only v old in (r.0, (r.1.0, r.1.1, omega (arith, r.1.2), r.1.3, r.1.4))
          | inr new ↦ (new.1, (at, w, omega arith, here, new.0))
        ];
        apart = λ i j t u v less lt there also cuts h k. elim (cases_lt j at) [
          | inl old ↦ before.apart i j t u v less old there also cuts h k
          | inr new ↦
              takes.fresh v (subst (λ l. Has (nodes_of n x l) v) (at_last ws at w here j u lt new also) k) cuts (before.held i t v (omega arith) there h cuts)
        ];
      }

      pub held_clashes : Clashes n (nodes_of n x w) held → HasShared n x ws
      held_clashes (v, on, cuts, old) =
          let r = (before.only v old).1 in
          (v, cuts, inr (r.0, at, r.1, w, r.2, r.3, here, r.4, on))

    -- where all walks are held and there is one, the nodes that are held are shared
    shared_one : (at : ℕ) (held : List T) → AreHeld at held → at ≡ length ws → length ws ≡ 1 → (v : T) → Has held v → HasShared n x ws
    shared_one at held h all one v there =
        let r = h.only v there in
        let first : r.1.0 ≡ 0 = omega (arith, r.1.2) in
        (v, r.0, inl (r.1.1, alone ws r.1.1 one (subst (λ i. At ws i r.1.1) first r.1.3), r.1.4))
      where
        alone : (us : List (List ℕ)) (u : List ℕ) → length us ≡ 1 → At us 0 u → us ≡ u ∷ []
        alone [] u e a = absurd a
        alone (t ∷ []) u e a = ap (λ z. z ∷ []) a
        alone (t ∷ s ∷ us) u e a = let c : ⊥ = omega arith in absurd c

    -- and else none is
    pub unshared : (at : ℕ) (held : List T) → AreHeld at held → at ≡ length ws → (length ws ≡ 1 → (v : T) → ¬ Has held v) → ¬ HasShared n x ws
    unshared at held h all none (v, cuts, inl (w, is, on)) =
        let one : length ws ≡ 1 = ap length is in
        let first : At ws 0 w = subst (λ us. At us 0 w) (sym is) refl in
        none one v (h.held 0 w v (omega arith) first on cuts)
    unshared at held h all none (v, cuts, inr (i, j, u, w, less, there, also, on, too)) =
        let within : j < length ws = at_within ws j w also in
        h.apart i j u w v less (omega arith) there also cuts on too

    -- of one walk a node is shared exactly where one is held
    pub shared_if_held : (at : ℕ) (now : List T) → AreHeld at now → at ≡ length ws → length ws ≡ 1 → (empty : Bool) → (IsTrue empty ↔ (length now ≡ 0)) → IsTrue (not empty) ↔ HasShared n x ws
    shared_if_held at now h all one true is = (λ no. absurd (true≢false (sym no)), λ s. absurd (unshared at now h all (λ e. nothing now (is.0 refl)) s))
      where
        nothing : (nodes : List T) → length nodes ≡ 0 → (v : T) → ¬ Has nodes v
        nothing [] e v m = m
        nothing (y ∷ ys) e v m = let c : ⊥ = omega arith in c
    shared_if_held at now h all one false is = (λ yes. some now refl, λ s. refl)
      where
        some : (nodes : List T) → nodes ≡ now → HasShared n x ws
        some [] e = absurd (true≢false (sym (is.1 (sym (ap length e)))))
        some (y ∷ ys) e = shared_one at now h all one y (subst (λ l. Has l y) e (inl refl))

    -- walks none of whose nodes is on two are disjoint
    disjoint : (us : List (List ℕ)) → ((i j : ℕ) (u w : List ℕ) (v : T) → i < j → At us i u → At us j w → n.may_cut v ≡ true → Has (nodes_of n x u) v → ¬ Has (nodes_of n x w) v)
        → AreDisjoint n x us
    disjoint [] h = tt
    disjoint (w ∷ us) h = (
      (λ u v there cuts here also.
          let place : (i : ℕ) × At us i u = has_at us u there in
          h 0 (suc place.0) w u v (omega arith) refl place.1 cuts here also),
      disjoint us (λ i j t u v less there also. h (suc i) (suc j) t u v (omega arith) there also),
    )

    -- two of disjoint walks share no node that may be cut
    two_apart : (us : List (List ℕ)) → AreDisjoint n x us → (i j : ℕ) (u w : List ℕ) (v : T) → i < j → At us i u → At us j w → n.may_cut v ≡ true
        → Has (nodes_of n x u) v → ¬ Has (nodes_of n x w) v
    two_apart [] d i j u w v less there also cuts on too = there
    two_apart (t ∷ us) d i zero u w v less there also cuts on too = omega arith
    two_apart (t ∷ us) d zero (suc j) u w v less there also cuts on too =
        d.0 w v (at_has us j w also) cuts (subst (λ l. Has (nodes_of n x l) v) (sym there) on) too
    two_apart (t ∷ us) d (suc i) (suc j) u w v less there also cuts on too = two_apart us d.1 i j u w v (omega arith) there also cuts on too

    -- enough walks that share no node are a barrier
    pub barrier : (k : ℕ) → AreEnough k ws → Each (IsIndexWalk n x) ws → ¬ HasShared n x ws → IsBarrier n x k ws
    barrier k (inl one) walks none = single ws one walks none
      where
        single : (us : List (List ℕ)) → length us ≡ 1 → Each (IsIndexWalk n x) us → ¬ HasShared n x us → IsBarrier n x k us
        single [] e a s = let c : ⊥ = omega arith in absurd c
        single (w ∷ []) e a s =
            inl (
              w,
              refl,
              record {
                walk = a.0;
                uncut = λ v h. elim (cases_Bool (n.may_cut v)) [ inl cuts ↦ absurd (s (v, cuts, inl (w, refl, h))) | inr uncut ↦ uncut ];
              },
            )
        single (w ∷ t ∷ us) e a s = let c : ⊥ = omega arith in absurd c
    barrier k (inr many) walks none =
        inr (
          many,
          record {
            walks = walks;
            disjoint = disjoint ws (λ i j u w v less there also cuts on too. none (v, cuts, inr (i, j, u, w, less, there, also, on, too)));
          },
        )

    walks_of : (k : ℕ) → IsBarrier n x k ws → Each (IsIndexWalk n x) ws
    walks_of k (inl (w, is, free)) = subst (Each (IsIndexWalk n x)) (sym is) (free.walk, tt)
    walks_of k (inr (many, flow)) = flow.walks

    pub no_share : (k : ℕ) → 1 ≤ k → IsBarrier n x k ws → ¬ HasShared n x ws
    no_share k least (inl (w, is, free)) (v, cuts, inl (u, only, on)) =
        let same : At (w ∷ []) 0 u = subst (λ us. At us 0 u) (sym only ∙ is) refl in
        true≢false (sym cuts ∙ free.uncut v (subst (λ l. Has (nodes_of n x l) v) (sym same) on))
    no_share k least (inl (w, is, free)) (v, cuts, inr (i, j, u, t, less, there, also, on, too)) =
        let within : j < length ws = at_within ws j t also in
        let one : length ws ≡ 1 = ap length is in
        omega arith
    no_share k least (inr (many, flow)) (v, cuts, inl (u, only, on)) =
        let one : length ws ≡ 1 = ap length only in
        omega arith
    no_share k least (inr (many, flow)) (v, cuts, inr (i, j, u, t, less, there, also, on, too)) =
        two_apart ws flow.disjoint i j u t v less there also cuts on too

    pub no_walk : (k : ℕ) → HasNoWalk n x ws → ¬ IsBarrier n x k ws
    no_walk k (w, there, not) b = not (each_has (IsIndexWalk n x) ws (walks_of k b) w there)
