-- The least signal of each class, and that it is the twin.
use Rattle.std.proofs.Common.{◌≡◌, ◌≢◌, ℕ, ◌+◌, ◌<◌, ◌≤◌, inl, inr, List, [], ◌∷◌, ◌++◌, length, get_or, set, replicate, Some, None, refl, sym, ◌∙◌, ap, subst, arith}
use Rattle.std.specs.Prelude.{Option, unwrap_or, slice_index_or}
use Rattle.std.proofs.lemmas.Bool.{cases_lt, cases_eq}
use Rattle.std.proofs.lemmas.List.{get_or-set_same, get_or-set_other, get_or_past, get_or_read, get_or-replicate, length-replicate, get_or_append_left, get_or_push, length_push}
use Rattle.tm_circuit.specs.Plain.{Drive}
use Rattle.tm_twins.specs.Twins.{AreTwins, twin_in}
use Rattle.tm_twins.specs.Classes.{head_in, AreHeads, IsLeast, AreLeast}
use Rattle.tm_twins.proofs.Words.{past_no_word}

-- The first signals of the classes that were met, and the least of each of the first signals, so many.
pub record HaveLeast (heads : List ℕ) (firsts : List (Option ℕ)) (leasts : List ℕ) (upto : ℕ) : Type 0 where
  pub none : (h : ℕ) → slice_index_or firsts h None ≡ None → (r : ℕ) → r < upto → head_in heads r ≢ h
  pub same : (h f : ℕ) → slice_index_or firsts h None ≡ Some f → head_in heads f ≡ h
  pub least : (h f : ℕ) → slice_index_or firsts h None ≡ Some f → (r : ℕ) → head_in heads r ≡ h → f ≤ r
  pub are : AreLeast heads leasts upto

-- The first of a class, or a signal of a class that was not met, is the least.
least_of : (heads : List ℕ) (firsts : List (Option ℕ)) (leasts : List ℕ) (s : ℕ) → HaveLeast heads firsts leasts s
    → (o : Option ℕ) → slice_index_or firsts (head_in heads s) None ≡ o → IsLeast heads s (unwrap_or o s)
least_of heads firsts leasts s h None none = record {
  same = refl;
  least = λ r same. elim (cases_lt r s) [
    | inl before ↦ absurd (h.none (head_in heads s) none r before same)
    | inr after ↦ after
  ];
}
least_of heads firsts leasts s h (Some f) found = record {
  same = h.same (head_in heads s) f found;
  least = h.least (head_in heads s) f found;
}

pub least_more : (heads : List ℕ) (firsts : List (Option ℕ)) (leasts : List ℕ) (s class f : ℕ)
    → HaveLeast heads firsts leasts s → class ≡ head_in heads s → class < length firsts
    → f ≡ unwrap_or (slice_index_or firsts class None) s
    → HaveLeast heads (set firsts class (Some f)) (leasts ++ f ∷ []) (s + 1)
least_more heads firsts leasts s class f h class_is within is =
    let new : IsLeast heads s f =
    subst (λ x. IsLeast heads s x) (sym (is ∙ ap (λ c. unwrap_or (slice_index_or firsts c None) s) class_is))
    (least_of heads firsts leasts s h (slice_index_or firsts (head_in heads s) None) refl) in
    let here : slice_index_or (set firsts class (Some f)) class None ≡ Some f = get_or-set_same firsts class (Some f) None within in
    let other : (k : ℕ) → k ≢ class → slice_index_or (set firsts class (Some f)) k None ≡ slice_index_or firsts k None =
    λ k differ. get_or-set_other firsts class k (Some f) None differ in
    record {
      none = λ k is_none r below same. elim (cases_eq k class) [
        | inl is_class ↦ absurd (let there : slice_index_or (set firsts class (Some f)) k None ≡ Some f = subst (λ c. slice_index_or (set firsts class (Some f)) c None ≡ Some f) (sym is_class) here in cc)
        | inr differ ↦ elim (cases_lt r s) [
          | inl before ↦ h.none k (sym (other k differ) ∙ is_none) r before same
          | inr after ↦
              let itself : r ≡ s = omega arith in
              differ (sym same ∙ (ap (λ x. head_in heads x) itself ∙ sym class_is))
        ]
      ];
      same = λ k g found. elim (cases_eq k class) [
        | inl is_class ↦
            let there : slice_index_or (set firsts class (Some f)) k None ≡ Some f = subst (λ c. slice_index_or (set firsts class (Some f)) c None ≡ Some f) (sym is_class) here in
            let both : f ≡ g = cc in
            subst (λ x. head_in heads x ≡ k) both (new.same ∙ (sym class_is ∙ sym is_class))
        | inr differ ↦ h.same k g (sym (other k differ) ∙ found)
      ];
      least = λ k g found r same. elim (cases_eq k class) [
        | inl is_class ↦
            let there : slice_index_or (set firsts class (Some f)) k None ≡ Some f = subst (λ c. slice_index_or (set firsts class (Some f)) c None ≡ Some f) (sym is_class) here in
            let both : f ≡ g = cc in
            subst (λ x. x ≤ r) both (new.least r (same ∙ (is_class ∙ class_is)))
        | inr differ ↦ h.least k g (sym (other k differ) ∙ found) r same
      ];
      are = record {
        sized = length_push leasts f ∙ ap (λ n. n + 1) h.are.sized;
        each = λ r below. elim (cases_lt r s) [
          | inl before ↦
              let sized = h.are.sized in
              let inside : r < length leasts = omega arith in
              subst (λ x. IsLeast heads r x) (sym (get_or_append_left leasts (f ∷ []) r r inside)) (h.are.each r before)
          | inr after ↦
              let itself : s ≡ r = omega arith in
              subst (λ k. IsLeast heads k (head_in (leasts ++ f ∷ []) k)) itself
              (subst (λ x. IsLeast heads s x) (sym (get_or_push leasts f s s h.are.sized)) new)
        ];
      };
    }

-- Before the first signal.
pub least_none : (heads : List ℕ) (firsts : List (Option ℕ)) → ((h : ℕ) → slice_index_or firsts h None ≡ None)
    → HaveLeast heads firsts [] 0
least_none heads firsts none = record {
  none = λ k is_none r below. absurd (omega arith);
  same = λ k f found. absurd (let is = none k in cc);
  least = λ k f found. absurd (let is = none k in cc);
  are = record { sized = refl; each = λ r below. absurd (omega arith) };
}

pub twins_from_heads : (drives : List Drive) (heads leasts : List ℕ) → AreHeads drives heads
    → AreLeast heads leasts (length drives) → AreTwins drives (twin_in leasts)
twins_from_heads drives heads leasts h l s =
    elim (cases_lt s (length drives)) [
      | inl within ↦
          let least = l.each s within in
          record {
            equal = elim (h.apart s (twin_in leasts s) (sym least.same)) [ inl same ↦ inl (sym same) | inr equal ↦ inr equal ];
            least = λ r equal. least.least r (sym (h.joins s r equal));
          }
      | inr past ↦
          let sized = l.sized in
          let beyond : length leasts ≤ s = omega arith in
          record {
            equal = inl (get_or_past leasts s s beyond);
            least = λ r (w, (e, hs, hr)). absurd (past_no_word drives s w e past hs);
          }
    ]

-- A list of nothing but `None` has nothing at each place.
pub none_everywhere : (n h : ℕ) (firsts : List (Option ℕ)) → firsts ≡ replicate n None → slice_index_or firsts h None ≡ None
none_everywhere n h firsts is =
    ap (λ xs. slice_index_or xs h None) is ∙ elim (cases_lt h n) [
      | inl within ↦ get_or-replicate n h None None within
      | inr past ↦
          let sized : length (replicate {A = Option ℕ} n None) ≡ n = length-replicate n None in
          let beyond : length (replicate {A = Option ℕ} n None) ≤ h = omega arith in
          get_or_past (replicate n None) h None beyond
    ]

-- One step of the loop, by what it reads and writes.
pub least_next : (heads : List ℕ) (firsts : List (Option ℕ)) (leasts leasts' : List ℕ) (s class_at class f : ℕ) (o : Option ℕ)
    → HaveLeast heads firsts leasts s → s < length heads → class ≡ get_or heads s class → class_at ≡ class
    → class_at < length firsts → o ≡ get_or firsts class_at o → f ≡ unwrap_or o s → leasts' ≡ leasts ++ f ∷ []
    → HaveLeast heads (set firsts class_at (Some f)) leasts' (s + 1)
least_next heads firsts leasts leasts' s class_at class f o h within read is inside read_first least longer =
    let class_is : class_at ≡ head_in heads s = is ∙ get_or_read heads s class within read s in
    let there : o ≡ get_or firsts class_at None = get_or_read firsts class_at o inside read_first None in
    subst (λ xs. HaveLeast heads (set firsts class_at (Some f)) xs (s + 1)) (sym longer)
    (least_more heads firsts leasts s class_at f h class_is inside (least ∙ ap (λ x. unwrap_or x s) there))
