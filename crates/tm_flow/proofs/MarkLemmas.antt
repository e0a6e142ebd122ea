-- The nodes that a search has numbered, and their marks.
use Rattle.std.proofs.Common.{◌≡◌, ℕ, ◌+◌, ◌*◌, ◌<◌, ◌≤◌, zero, suc, Bool, true, false, cond, ◌||◌, true≢false, ◌⊎◌, inl, inr, List, [], ◌∷◌, ◌++◌, length, length-append, set, length-set, map, get_or, slice_get, Some, not, if◌then◌else◌, refl, sym, ap, subst, ◌∙◌, arith}
use Rattle.std.specs.List.{list_any}
use Rattle.std.proofs.lemmas.List.Sums.{sum_by-cons, sum_by-append, sum_by-set}
use Rattle.indexmap.specs.IndexSet.{insert_key}
use Rattle.tm_flow.specs.Lists.{Has, AreApart, At}
use Rattle.tm_flow.specs.Searches.{mark_of, with_mark, no_marks, marks_in, count_of, unmet, IsNumbered, IsMarked, IsUsed, Names}
use Rattle.tm_flow.specs.declared.search.Marks.{Marks}
use Rattle.tm_flow.specs.declared.search.Side.{Side}
use Rattle.tm_flow.proofs.ListLemmas.{has_either, apart_push}
use Rattle.tm_flow.proofs.PlaceLemmas.{at_map, at_image, at_from_get, at_left, at_either, at_within, at_same, at_once, get_or_at}

mark_with : (m : Marks) (f : Bool) → mark_of (with_mark m f) f ≡ true
mark_with m true = refl
mark_with m false = refl

mark_kept : (m : Marks) (f g : Bool) → mark_of m g ≡ true → mark_of (with_mark m f) g ≡ true
mark_kept m true true h = refl
mark_kept m true false h = h
mark_kept m false true h = h
mark_kept m false false h = refl

mark_only : (m : Marks) (f g : Bool) → mark_of (with_mark m f) g ≡ true → (mark_of m g ≡ true) ⊎ (f ≡ g)
mark_only m true true h = inr refl
mark_only m true false h = inl h
mark_only m false true h = inl h
mark_only m false false h = inr refl

-- a mark written in its place, where these marks stand
pub written_in : (marks : List Marks) (i : ℕ) (f : Bool) (m old new : Marks) → At marks i m → old ≡ get_or marks i old → new ≡ with_mark old f
    → set marks i new ≡ set marks i (with_mark m f)
written_in marks i f m old new has is written = ap (set marks i) (written ∙ ap (λ k. with_mark k f) (is ∙ get_or_at marks i old m has))

use_kept : (m : Marks) (f : Bool) → m.used ≡ true → (with_mark m f).used ≡ true
use_kept m true h = h
use_kept m false h = h

no_mark : (f : Bool) → mark_of no_marks f ≡ true → ⊥
no_mark true h = true≢false (sym h)
no_mark false h = true≢false (sym h)

marks_more : (m : Marks) (f : Bool) → mark_of m f ≡ false → marks_in (with_mark m f) ≡ marks_in m + 1
marks_more m true h = let z : cond {A = ℕ} m.far 1 0 ≡ 0 = ap (λ b. cond {A = ℕ} b 1 0) h in omega arith
marks_more m false h = let z : cond {A = ℕ} m.near 1 0 ≡ 0 = ap (λ b. cond {A = ℕ} b 1 0) h in omega arith

marks_few : (m : Marks) → marks_in m ≤ 2
marks_few m = by m.near m.far
  where
    by : (a b : Bool) → cond {A = ℕ} a 1 0 + cond {A = ℕ} b 1 0 ≤ 2
    by true true = omega arith
    by true false = omega arith
    by false true = omega arith
    by false false = omega arith

pub count_few : (ms : List Marks) → count_of ms ≤ 2 * length ms
count_few [] = omega arith
count_few (m ∷ ms) = let a = sum_by-cons marks_in m ms in let b = count_few ms in let c = marks_few m in omega arith

module _ {X : Type 0} where
  pub at_set : (xs : List X) (i j : ℕ) (x y : X) → At xs j x → ((i ≡ j) × At (set xs i y) j y) ⊎ At (set xs i y) j x
  at_set [] i j x y h = absurd h
  at_set (z ∷ zs) zero zero x y h = inl (refl, refl)
  at_set (z ∷ zs) zero (suc j) x y h = inr h
  at_set (z ∷ zs) (suc i) zero x y h = inr h
  at_set (z ∷ zs) (suc i) (suc j) x y h = elim (at_set zs i j x y h) [ inl a ↦ inl (ap suc a.0, a.1) | inr b ↦ inr b ]

  pub at_set_here : (xs : List X) (i : ℕ) (x y : X) → At xs i x → At (set xs i y) i y
  at_set_here [] i x y h = absurd h
  at_set_here (z ∷ zs) zero x y h = refl
  at_set_here (z ∷ zs) (suc i) x y h = at_set_here zs i x y h

  at_set_either : (xs : List X) (i j : ℕ) (y z : X) → At (set xs i y) j z → ((i ≡ j) × (y ≡ z)) ⊎ At xs j z
  at_set_either [] i j y z h = absurd h
  at_set_either (x ∷ xs) zero zero y z h = inl (refl, h)
  at_set_either (x ∷ xs) zero (suc j) y z h = inr h
  at_set_either (x ∷ xs) (suc i) zero y z h = inr h
  at_set_either (x ∷ xs) (suc i) (suc j) y z h = elim (at_set_either xs i j y z h) [ inl a ↦ inl (ap suc a.0, a.1) | inr b ↦ inr b ]

module _ {T : Type 0} where
  -- once no side has been met, the nodes keep their numbers and uses
  pub none_marked : (nodes : List T) (marks : List Marks) (p : Side T) → IsMarked nodes (map unmet marks) p → ⊥
  none_marked nodes marks p h =
      let was = at_map unmet marks h.0 h.1 h.3 in no_mark_left was.0 p.is_far (ap (λ m. mark_of m p.is_far) was.2 ∙ h.4)
    where
      no_mark_left : (m : Marks) (f : Bool) → mark_of (unmet m) f ≡ true → ⊥
      no_mark_left m true h = true≢false (sym h)
      no_mark_left m false h = true≢false (sym h)

  pub used_unmet : (nodes : List T) (marks : List Marks) (v : T) → IsUsed nodes marks v → IsUsed nodes (map unmet marks) v
  used_unmet nodes marks v k = (k.0, unmet k.1, k.2, at_image unmet marks k.0 k.1 k.3, k.4)

  -- one more mark, of the side f of the node with the number i
  module _ (nodes : List T) (marks : List Marks) (numbered : IsNumbered nodes marks) (i : ℕ) (p : Side T) (m : Marks) (here : At nodes i p.node) (has : At marks i m) where
    pub marked_already : mark_of m p.is_far ≡ true → IsMarked nodes marks p
    marked_already h = (i, m, here, has, h)

    pub not_marked : mark_of m p.is_far ≡ false → IsMarked nodes marks p → ⊥
    not_marked h k =
        let e : k.0 ≡ i = at_once nodes k.0 i p.node numbered.apart k.2 here in
        let is : k.1 ≡ m = at_same marks i k.1 m (subst (λ j. At marks j k.1) e k.3) has in
        true≢false (sym k.4 ∙ ap (λ x. mark_of x p.is_far) is ∙ h)

    module _ (marks' : List Marks) (written : marks' ≡ set marks i (with_mark m p.is_far)) where
      pub marked_there : IsMarked nodes marks' p
      marked_there = (i, with_mark m p.is_far, here, subst (λ l. At l i (with_mark m p.is_far)) (sym written) (at_set_here marks i m (with_mark m p.is_far) has), mark_with m p.is_far)

      pub marked_stays : (q : Side T) → IsMarked nodes marks q → IsMarked nodes marks' q
      marked_stays q k =
          subst (λ l. IsMarked nodes l q) (sym written)
          (elim (at_set marks i k.0 k.1 (with_mark m p.is_far) k.3) [
            | inl a ↦
                let is : m ≡ k.1 = at_same marks k.0 m k.1 (subst (λ j. At marks j m) a.0 has) k.3 in
                (k.0, with_mark m p.is_far, k.2, a.1, mark_kept m p.is_far q.is_far (ap (λ x. mark_of x q.is_far) is ∙ k.4))
            | inr b ↦ (k.0, k.1, k.2, b, k.4)
          ])

      pub used_stays : (v : T) → IsUsed nodes marks v → IsUsed nodes marks' v
      used_stays v k =
          subst (λ l. IsUsed nodes l v) (sym written)
          (elim (at_set marks i k.0 k.1 (with_mark m p.is_far) k.3) [
            | inl a ↦
                let is : m ≡ k.1 = at_same marks k.0 m k.1 (subst (λ j. At marks j m) a.0 has) k.3 in
                (k.0, with_mark m p.is_far, k.2, a.1, use_kept m p.is_far (ap (λ x. x.used) is ∙ k.4))
            | inr b ↦ (k.0, k.1, k.2, b, k.4)
          ])

      pub marked_grown : (q : Side T) → IsMarked nodes marks' q → IsMarked nodes marks q ⊎ (p ≡ q)
      marked_grown q k' =
          let k : IsMarked nodes (set marks i (with_mark m p.is_far)) q = subst (λ l. IsMarked nodes l q) written k' in
          elim (at_set_either marks i k.0 (with_mark m p.is_far) k.1 k.3) [
            | inl a ↦ elim (mark_only m p.is_far q.is_far (ap (λ x. mark_of x q.is_far) a.1 ∙ k.4)) [
              | inl old ↦ inl (k.0, m, k.2, subst (λ j. At marks j m) a.0 has, old)
              | inr is ↦
                  let node : p.node ≡ q.node = at_same nodes k.0 p.node q.node (subst (λ j. At nodes j p.node) a.0 here) k.2 in
                  inr (λ j. record { node = node j; is_far = is j })
            ]
            | inr b ↦ inl (k.0, k.1, k.2, b, k.4)
          ]

      pub marked_count : mark_of m p.is_far ≡ false → count_of marks' ≡ count_of marks + 1
      marked_count h =
          let lt : i < length marks = at_within marks i m has in
          let sum = sum_by-set marks_in marks i (with_mark m p.is_far) m lt in
          let was : marks_in (get_or marks i m) ≡ marks_in m = ap marks_in (get_or_at marks i m m has) in
          let more = marks_more m p.is_far h in
          let e : count_of marks' ≡ count_of (set marks i (with_mark m p.is_far)) = ap count_of written in
          omega arith

      pub marked_even : IsNumbered nodes marks'
      marked_even = record { apart = numbered.apart; even = ap length written ∙ length-set marks i (with_mark m p.is_far) ∙ numbered.even }

  -- a node that has its number
  pub names_old : (v : T) (number : ℕ) (nodes : List T) (marks : List Marks) (nodes' : List T) → IsNumbered nodes marks → nodes' ≡ nodes → At nodes' number v
      → Names v number nodes marks nodes' marks
  names_old v number nodes marks nodes' numbered same here = record {
    numbered = subst (λ l. IsNumbered l marks) (sym same) numbered;
    here = here;
    longer = λ i u a. subst (λ l. At l i u) (sym same) a;
    named = λ u h. inl (subst (λ l. Has l u) same h);
    stays = λ p h. subst (λ l. IsMarked l marks p) (sym same) h;
    only = λ p h. subst (λ l. IsMarked l marks p) same h;
    used = λ u h. subst (λ l. IsUsed l marks u) (sym same) h;
    count = refl;
  }

  -- a node that gets the next number
  pub names_new : (v : T) (number : ℕ) (nodes : List T) (marks : List Marks) (nodes' : List T) (marks' : List Marks) → IsNumbered nodes marks
      → nodes' ≡ nodes ++ v ∷ [] → marks' ≡ marks ++ no_marks ∷ [] → At nodes' number v → (Has nodes v → ⊥) → Names v number nodes marks nodes' marks'
  names_new v number nodes marks nodes' marks' numbered more marks_more here absent = record {
    numbered = record {
      apart = subst AreApart (sym more) (apart_push nodes v numbered.apart absent);
      even = ap length marks_more ∙ length-append marks (no_marks ∷ []) ∙ ap (λ k. k + 1) numbered.even ∙ sym (length-append nodes (v ∷ [])) ∙ sym (ap length more);
    };
    here = here;
    longer = λ i u a. subst (λ l. At l i u) (sym more) (at_left nodes (v ∷ []) i u a);
    named = λ u h. elim (has_either nodes (v ∷ []) u (subst (λ l. Has l u) more h)) [ inl old ↦ inl old | inr new ↦ elim new [ inl e ↦ inr e | inr none ↦ absurd none ] ];
    stays = λ p h.
        subst (λ l. IsMarked l marks' p) (sym more) (subst (λ l. IsMarked (nodes ++ v ∷ []) l p) (sym marks_more)
        (h.0, h.1, at_left nodes (v ∷ []) h.0 p.node h.2, at_left marks (no_marks ∷ []) h.0 h.1 h.3, h.4));
    used = λ u h.
        subst (λ l. IsUsed l marks' u) (sym more) (subst (λ l. IsUsed (nodes ++ v ∷ []) l u) (sym marks_more)
        (h.0, h.1, at_left nodes (v ∷ []) h.0 u h.2, at_left marks (no_marks ∷ []) h.0 h.1 h.3, h.4));
    only = λ p h. only p (subst (λ l. IsMarked l (marks ++ no_marks ∷ []) p) more (subst (λ l. IsMarked nodes' l p) marks_more h));
    count = ap count_of marks_more ∙ sum_by-append marks_in marks (no_marks ∷ []) ∙ omega arith;
  }
    where
      only : (p : Side T) → IsMarked (nodes ++ v ∷ []) (marks ++ no_marks ∷ []) p → IsMarked nodes marks p
      only p h =
          elim (at_either marks (no_marks ∷ []) h.0 h.1 h.3) [
            | inl old ↦ elim (at_either nodes (v ∷ []) h.0 p.node h.2) [
              | inl node ↦ (h.0, h.1, node, old, h.4)
              | inr past ↦
                  let lt : h.0 < length marks = at_within marks h.0 h.1 old in
                  let e : h.0 ≡ length nodes + past.0 = past.1 in
                  let even : length marks ≡ length nodes = numbered.even in
                  let none : ⊥ = omega arith in absurd none
            ]
            | inr new ↦ fresh new.0 h.1 new.2 h.4
          ]
        where
          fresh : (d : ℕ) (m : Marks) → At (no_marks ∷ []) d m → mark_of m p.is_far ≡ true → IsMarked nodes marks p
          fresh zero m a k = absurd (no_mark p.is_far (ap (λ x. mark_of x p.is_far) a ∙ k))
          fresh (suc d) m a k = absurd a

-- a key that no test finds is not in the list
pub absent_key : {T : Type 0} (eq : T → T → Bool) → ((x : T) → eq x x ≡ true) → (ks : List T) (v : T) → list_any (eq v) ks ≡ false → Has ks v → ⊥
absent_key eq self [] v h m = m
absent_key eq self (k ∷ ks) v h (inl e) = true≢false (sym (ap (λ b. b || list_any (eq v) ks) (ap (eq v) e ∙ self v)) ∙ h)
absent_key eq self (k ∷ ks) v h (inr m) = by (eq v k) refl (λ g. absent_key eq self ks v g m)
  where
    by : (b : Bool) → eq v k ≡ b → (list_any (eq v) ks ≡ false → ⊥) → ⊥
    by true e rest = true≢false (sym (ap (λ b. b || list_any (eq v) ks) e) ∙ h)
    by false e rest = rest (sym (ap (λ b. b || list_any (eq v) ks) e) ∙ h)

pub not_true : (b : Bool) → true ≡ not b → b ≡ false
not_true true h = absurd (true≢false h)
not_true false h = refl

pub not_false : (b : Bool) → false ≡ not b → b ≡ true
not_false true h = refl
not_false false h = absurd (true≢false (sym h))

-- the keys after an insert of one that is there, and of one that is not
pub key_old : {T : Type 0} (eq : T → T → Bool) (ks ks' : List T) (v : T) → list_any (eq v) ks ≡ true → ks' ≡ insert_key eq ks v → ks' ≡ ks
key_old eq ks ks' v e h = h ∙ ap (λ b. if b then ks else ks ++ v ∷ []) e

pub key_new : {T : Type 0} (eq : T → T → Bool) (ks ks' : List T) (v : T) → list_any (eq v) ks ≡ false → ks' ≡ insert_key eq ks v → ks' ≡ ks ++ v ∷ []
key_new eq ks ks' v e h = h ∙ ap (λ b. if b then ks else ks ++ v ∷ []) e

-- the number that an insert answers
pub stored_at : {T : Type 0} (eq : T → T → Bool) → ((x y : T) → eq x y ≡ true → x ≡ y) → (ks : List T) (number : ℕ) (v : T)
    → (k : T) × (slice_get ks number ≡ Some k) × (eq v k ≡ true) → At ks number v
stored_at eq same ks number v h = subst (At ks number) (sym (same v h.0 h.2)) (at_from_get ks number h.0 h.1)
