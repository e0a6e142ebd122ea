-- How the search for wanted gates goes on: the gates that it meets, turn by turn, and that at its end it has met just the wanted
-- ones.
use Rattle.std.proofs.Common.{◌≡◌, ℕ, ◌+◌, ◌<◌, ◌≤◌, ◌⊎◌, inl, inr, Bool, true, false, not, cond, List, [], ◌∷◌, ◌++◌, length, get_or, set, take, refl, sym, ◌∙◌, ap, subst, arith}
use Rattle.std.specs.Prelude.{Contains, count_by}
use Rattle.std.proofs.lemmas.Bool.{cases_eq}
use Rattle.std.proofs.lemmas.List.{take_more, take_all, get_or_read, get_or-set_same, get_or-set_other, length-set, length_push}
use Rattle.std.proofs.lemmas.List.Sums.{sum_by-set}
use Rattle.std.proofs.lemmas.List.Elements.{Contains-push, Contains-push_cases, Contains-append_left}
use Rattle.tm_circuit.specs.Plain.{Plain, Drive}
use Rattle.tm_circuit.specs.Source.{IsSource}
use Rattle.tm_circuit.specs.declared.sources.Source.{Source}
use Rattle.tm_circuit.specs.declared.sources.Source.TheVariants.{Gate}
use Rattle.tm_circuit.proofs.ListLemmas.{contains-none}
use Rattle.tm_circuit.proofs.OneSource.{one_source}
use Rattle.tm_unroll.specs.declared.node.Node.{Node}
use Rattle.tm_merge.specs.Cuts.{cut_in}
use Rattle.tm_cover.specs.declared.wanted.Search.{Search}
use Rattle.tm_cover.specs.Chosen.{IsWanted, of_output, of_leaf}
use Rattle.tm_cover.specs.Wanted.{IsMet, left_by, unmet_by, IsStart, Meets, IsSourceAmong, IsSourceUnder, AreWanted}

-- A search meets no gate.
pub meets_nothing : (added : ℕ → Type 0) (s : Search) → ((g : ℕ) → added g → ⊥) → Meets added s s
meets_nothing added s none = record {
  sized = refl;
  kept = λ g h. h;
  met = λ g h. absurd (none g h);
  only = λ g h. inl h;
  fresh = λ g h. inl h;
  stays = λ g h. h;
  left = λ g h. inl h;
  balanced = refl;
}

-- The gates that are met can be told in another way.
pub meets_like : (added named : ℕ → Type 0) (old new : Search) → ((g : ℕ) → added g → named g) → ((g : ℕ) → named g → added g) → Meets added old new
    → Meets named old new
meets_like added named old new to back m = record {
  sized = m.sized;
  kept = m.kept;
  met = λ g h. m.met g (back g h);
  only = λ g h. elim (m.only g h) [ inl before ↦ inl before | inr new_one ↦ inr (to g new_one) ];
  fresh = m.fresh;
  stays = m.stays;
  left = λ g h. elim (m.left g h) [ inl before ↦ inl before | inr new_one ↦ inr (to g new_one) ];
  balanced = m.balanced;
}

-- A search meets gates one after another.
pub meets_then : (first second : ℕ → Type 0) (old mid new : Search) → Meets first old mid → Meets second mid new → Meets (λ g. first g ⊎ second g) old new
meets_then first second old mid new m n = record {
  sized = n.sized ∙ m.sized;
  kept = λ g h. n.kept g (m.kept g h);
  met = λ g h. elim h [ inl a ↦ n.kept g (m.met g a) | inr b ↦ n.met g b ];
  only = λ g h. elim (n.only g h) [
    | inl a ↦ elim (m.only g a) [ inl before ↦ inl before | inr i ↦ inr (inl i) ]
    | inr b ↦ inr (inr b)
  ];
  fresh = λ g h. elim (n.fresh g h) [
    | inl a ↦ elim (m.fresh g a) [ inl before ↦ inl before | inr i ↦ inr (n.stays g i) ]
    | inr b ↦ inr b
  ];
  stays = λ g h. n.stays g (m.stays g h);
  left = λ g h. elim (n.left g h) [
    | inl a ↦ elim (m.left g a) [ inl before ↦ inl before | inr i ↦ inr (inl i) ]
    | inr b ↦ inr (inr b)
  ];
  balanced = let e = m.balanced in let f = n.balanced in omega arith;
}

-- A search meets the gates of one item of a list more.
pub meets_more : {X : Type 0} (P : X → ℕ → Type 0) (xs : List X) (i : ℕ) (x : X) (old mid new : Search)
    → Meets (λ g. (y : X) × Contains (take i xs) y × P y g) old mid → i < length xs → x ≡ get_or xs i x → Meets (P x) mid new
    → Meets (λ g. (y : X) × Contains (take (i + 1) xs) y × P y g) old new
meets_more {X} P xs i x old mid new m within is n =
    let more : take (i + 1) xs ≡ take i xs ++ x ∷ [] = take_more xs i x within ∙ ap (λ (v : X). take i xs ++ v ∷ []) (sym is) in
    subst (λ (ys : List X). Meets (λ g. (y : X) × Contains ys y × P y g) old new) (sym more)
    (meets_like (λ g. ((y : X) × Contains (take i xs) y × P y g) ⊎ P x g) (λ g. (y : X) × Contains (take i xs ++ x ∷ []) y × P y g) old new to back
    (meets_then (λ g. (y : X) × Contains (take i xs) y × P y g) (P x) old mid new m n))
  where
    to : (g : ℕ) → ((y : X) × Contains (take i xs) y × P y g) ⊎ P x g → (y : X) × Contains (take i xs ++ x ∷ []) y × P y g
    to g (inl (y, stands, is_of)) = (y, Contains-append_left (take i xs) (x ∷ []) y stands, is_of)
    to g (inr is_of) = (x, Contains-push (take i xs) x, is_of)

    back : (g : ℕ) → ((y : X) × Contains (take i xs ++ x ∷ []) y × P y g) → ((y : X) × Contains (take i xs) y × P y g) ⊎ P x g
    back g (y, stands, is_of) =
        elim (Contains-push_cases (take i xs) x y stands) [
          | inl before ↦ inl (y, before, is_of)
          | inr same ↦ inr (subst (λ (z : X). P z g) (sym same) is_of)
        ]

-- At first none of a list is met, and at its end all.
pub meets_first : {X : Type 0} (P : X → ℕ → Type 0) (s : Search) → Meets (λ g. (y : X) × Contains [] y × P y g) s s
meets_first {X} P s = meets_nothing (λ g. (y : X) × Contains [] y × P y g) s (λ g (y, none, is). contains-none y none)

pub meets_all : {X : Type 0} (P : X → ℕ → Type 0) (xs : List X) (i : ℕ) (old new : Search) → Meets (λ g. (y : X) × Contains (take i xs) y × P y g) old new
    → length xs ≤ i → Meets (λ g. (y : X) × Contains xs y × P y g) old new
meets_all {X} P xs i old new m past = subst (λ (ys : List X). Meets (λ g. (y : X) × Contains ys y × P y g) old new) (take_all i xs past) m

-- A search meets a gate that it had not met.
pub meets_new : (g : ℕ) (old new : Search) → g < length old.met.items → get_or old.met.items g false ≡ false → new.met.items ≡ set old.met.items g true
    → left_by new ≡ left_by old ++ g ∷ [] → Meets (λ h. g ≡ h) old new
meets_new g old new within unmet met left = record {
  sized = ap length met ∙ length-set old.met.items g true;
  kept = λ h was. elim (cases_eq h g) [ inl same ↦ now_met h (sym same) | inr other ↦ stays_same h other ∙ was ];
  met = now_met;
  only = λ h is. elim (cases_eq h g) [ inl same ↦ inr (sym same) | inr other ↦ inl (sym (stays_same h other) ∙ is) ];
  fresh = λ h is. elim (cases_eq h g) [
    | inl same ↦ inr (subst (λ (l : List ℕ). Contains l h) (sym left) (subst (λ (i : ℕ). Contains (left_by old ++ g ∷ []) i) (sym same) (Contains-push (left_by old) g)))
    | inr other ↦ inl (sym (stays_same h other) ∙ is)
  ];
  stays = λ h is. subst (λ (l : List ℕ). Contains l h) (sym left) (Contains-append_left (left_by old) (g ∷ []) h is);
  left = λ h is. Contains-push_cases (left_by old) g h (subst (λ (l : List ℕ). Contains l h) left is);
  balanced =
      let sums = sum_by-set (λ (m : Bool). cond {A = ℕ} (not m) 1 0) old.met.items g true false within in
      let one = ap (λ (m : Bool). cond {A = ℕ} (not m) 1 0) unmet in
      let all = ap (count_by not) met in
      let long = ap length left in
      let pushed = length_push (left_by old) g in
      omega (arith, sums, one, all, long, pushed);
}
  where
    now_met : (h : ℕ) → g ≡ h → IsMet new h
    now_met h same =
        ap (λ (l : List Bool). get_or l h false) met ∙ ap (λ i. get_or (set old.met.items g true) i false) (sym same) ∙ get_or-set_same old.met.items g true false within

    stays_same : (h : ℕ) → (h ≡ g → ⊥) → get_or new.met.items h false ≡ get_or old.met.items h false
    stays_same h other = ap (λ (l : List Bool). get_or l h false) met ∙ get_or-set_other old.met.items g h true false other

-- A search meets a gate that it had met.
pub meets_again : (g : ℕ) (s : Search) → get_or s.met.items g false ≡ true → Meets (λ h. g ≡ h) s s
meets_again g s met = record {
  sized = refl;
  kept = λ h is. is;
  met = λ h same. subst (λ i. IsMet s i) same met;
  only = λ h is. inl is;
  fresh = λ h is. inl is;
  stays = λ h is. is;
  left = λ h is. inl is;
  balanced = refl;
}

-- The same as the code names the places.
pub meets_new_at : (g place : ℕ) (mark : Bool) (old new : Search) → place ≡ g → g < length old.met.items → mark ≡ get_or old.met.items place mark → mark ≡ false
    → new.met.items ≡ set old.met.items place true → left_by new ≡ left_by old ++ g ∷ [] → Meets (λ h. g ≡ h) old new
meets_new_at g place mark old new at within read unmet met left =
    meets_new g old new within (sym (get_or_read old.met.items g mark within (subst (λ i. mark ≡ get_or old.met.items i mark) at read) false) ∙ unmet)
    (subst (λ i. new.met.items ≡ set old.met.items i true) at met) left

pub meets_again_at : (g place : ℕ) (mark : Bool) (s : Search) → place ≡ g → g < length s.met.items → mark ≡ get_or s.met.items place mark → mark ≡ true → Meets (λ h. g ≡ h) s s
meets_again_at g place mark s at within read met =
    meets_again g s (sym (get_or_read s.met.items g mark within (subst (λ i. mark ≡ get_or s.met.items i mark) at read) false) ∙ met)

-- A source that is a gate is the one gate, and another source none.
pub meets_source : (drives : List Drive) (s g : ℕ) (e : Source) (old new : Search) → IsSource drives s e → e ≡ Gate g → Meets (λ h. g ≡ h) old new
    → Meets (λ h. IsSource drives s (Gate h)) old new
meets_source drives s g e old new is same =
    meets_like (λ h. g ≡ h) (λ h. IsSource drives s (Gate h)) old new (λ h at. subst (λ i. IsSource drives s (Gate i)) at gate)
    (λ h other. let one : Gate g ≡ Gate h = one_source drives s (Gate g) (Gate h) gate other in cc)
  where
    gate : IsSource drives s (Gate g)
    gate = subst (λ (x : Source). IsSource drives s x) same is

pub meets_no_source : (drives : List Drive) (s : ℕ) (e : Source) (search : Search) → IsSource drives s e → ((g : ℕ) → e ≡ Gate g → ⊥)
    → Meets (λ h. IsSource drives s (Gate h)) search search
meets_no_source drives s e search is none =
    meets_nothing (λ h. IsSource drives s (Gate h)) search (λ g gate. none g (one_source drives s e (Gate g) is gate))

-- ---- turn by turn

-- The newest of the gates that are left is taken.
pub record Pops (g : ℕ) (old new : Search) : Type 0 where
  pub met : new.met.items ≡ old.met.items
  pub left : left_by old ≡ left_by new ++ g ∷ []

-- A search has met the source gates of a gate's leaves.
abbrev pub HasMetLeaves : Plain → List (List Node) → Search → ℕ → Type 0
HasMetLeaves c cuts s g = (h : ℕ) → IsSourceUnder c.drives (cut_in cuts g) h → IsMet s h

-- A search under way: what it has met is wanted, with the source gates of the outputs among it, and what is not left has been gone
-- through.
pub record IsUnderWay (c : Plain) (cuts : List (List Node)) (s : Search) : Type 0 where
  pub sized : length s.met.items ≡ length c.drives
  pub wanted : (g : ℕ) → IsMet s g → IsWanted c cuts g
  pub outputs : (g : ℕ) → IsSourceAmong c.drives c.outputs g → IsMet s g
  pub left : (g : ℕ) → Contains (left_by s) g → IsMet s g
  pub gone : (g : ℕ) → IsMet s g → Contains (left_by s) g ⊎ HasMetLeaves c cuts s g

module _ (c : Plain) (cuts : List (List Node)) where
  pub starts : (old new : Search) → IsStart (length c.drives) old → Meets (IsSourceAmong c.drives c.outputs) old new → IsUnderWay c cuts new
  starts old new start m = record {
    sized = m.sized ∙ start.sized;
    wanted = λ g is. elim (m.only g is) [ inl before ↦ absurd (start.none g before) | inr (o, stands, source) ↦ of_output o g stands source ];
    outputs = λ g is. m.met g is;
    left = λ g is. elim (m.left g is) [ inl before ↦ absurd (start.empty g before) | inr added ↦ m.met g added ];
    gone = λ g is. elim (m.fresh g is) [ inl before ↦ absurd (start.none g before) | inr waits ↦ inl waits ];
  }

  -- The gate that is taken is wanted.
  pub popped_wanted : (s p : Search) (g : ℕ) → IsUnderWay c cuts s → Pops g s p → IsWanted c cuts g
  popped_wanted s p g going pops = going.wanted g (going.left g (subst (λ (l : List ℕ). Contains l g) (sym pops.left) (Contains-push (left_by p) g)))

  pub turns : (s p n : Search) (g : ℕ) → IsUnderWay c cuts s → Pops g s p → Meets (IsSourceUnder c.drives (cut_in cuts g)) p n → IsUnderWay c cuts n
  turns s p n g going pops m = record {
    sized = m.sized ∙ ap length pops.met ∙ going.sized;
    wanted = λ h is. elim (m.only h is) [
      | inl before ↦ going.wanted h (was_met h before)
      | inr (x, leaf, source) ↦ of_leaf g h x (popped_wanted s p g going pops) leaf source
    ];
    outputs = λ h is. stays_met h (going.outputs h is);
    left = λ h is. elim (m.left h is) [
      | inl before ↦ stays_met h (going.left h (subst (λ (l : List ℕ). Contains l h) (sym pops.left) (Contains-append_left (left_by p) (g ∷ []) h before)))
      | inr added ↦ m.met h added
    ];
    gone = λ h is. elim (m.fresh h is) [
      | inr waits ↦ inl waits
      | inl before ↦ elim (going.gone h (was_met h before)) [
        | inr through ↦ inr (λ i source. stays_met i (through i source))
        | inl waited ↦ elim (Contains-push_cases (left_by p) g h (subst (λ (l : List ℕ). Contains l h) pops.left waited)) [
          | inl waits ↦ inl (m.stays h waits)
          | inr same ↦ inr (subst (λ j. HasMetLeaves c cuts n j) same (λ i source. m.met i source))
        ]
      ]
    ];
  }
    where
      was_met : (h : ℕ) → IsMet p h → IsMet s h
      was_met h is = subst (λ (l : List Bool). get_or l h false ≡ true) pops.met is

      stays_met : (h : ℕ) → IsMet s h → IsMet n h
      stays_met h is = m.kept h (subst (λ (l : List Bool). get_or l h false ≡ true) (sym pops.met) is)

  -- With nothing left, just the wanted gates are met.
  pub ends : (s : Search) → IsUnderWay c cuts s → ((g : ℕ) → Contains (left_by s) g → ⊥) → AreWanted c cuts s.met.items
  ends s going empty = record { sized = going.sized; each = λ g. (going.wanted g, all_met) }
    where
      all_met : {g : ℕ} → IsWanted c cuts g → IsMet s g
      all_met (of_output o g stands source) = going.outputs g (o, stands, source)
      all_met (of_leaf g h x wanted leaf source) =
          elim (going.gone g (all_met wanted)) [
            | inl waits ↦ absurd (empty g waits)
            | inr through ↦ through h (x, leaf, source)
          ]

-- Each turn takes one from what is not met and what is left.
pub turn_smaller : (added : ℕ → Type 0) (s p n : Search) (g : ℕ) → Pops g s p → Meets added p n → unmet_by n + length (left_by n) < unmet_by s + length (left_by s)
turn_smaller added s p n g pops m =
    let balanced = m.balanced in
    let same = ap (count_by not) pops.met in
    let long = ap length pops.left in
    let pushed = length_push (left_by p) g in
    omega (arith, balanced, same, long, pushed)
