-- Each signal has a twin: words are short, so that they are found.
use Rattle.std.proofs.Common.{◌≡◌, ℕ, zero, suc, ◌<◌, ◌≤◌, ◌⊎◌, inl, inr, Bool, true, false, ◌||◌, eqb, List, [], ◌∷◌, length, refl, sym, ◌∙◌, ap, subst, arith}
use Rattle.std.specs.List.{list_any, IsDistinct, AllByRecursion}
use Rattle.std.proofs.lemmas.Bool.{cases_lt, cases_eq, eqb-true}
use Rattle.std.proofs.lemmas.Map.Steps.{length-le_from_distinct_below}
use Rattle.tm_circuit.specs.Plain.{Drive, input, latch, gate, drive_in, is_latch}
use Rattle.tm_circuit.specs.Source.{step_back}
use Rattle.tm_twins.specs.Twins.{IsWord, HasWord, AreEqual, IsTwin}
use Rattle.tm_twins.proofs.Words.{one_word, word_along, worded_within}

module _ (ds : List Drive) where
  -- ---- a word is short

  -- The signals on the way back, so many.
  abbrev trail : ℕ → ℕ → List ℕ
  trail zero s = []
  trail (suc n) s = s ∷ trail n (step_back s (drive_in ds s))

  length-trail : (n s : ℕ) → length (trail n s) ≡ n
  length-trail zero s = refl
  length-trail (suc n) s = ap suc (length-trail n (step_back s (drive_in ds s)))

  -- The way of a latch goes on from its next.
  trail-latch : (n s next : ℕ) (init : Bool) → drive_in ds s ≡ latch next init → trail (suc n) s ≡ s ∷ trail n next
  trail-latch n s next init is = ap (λ d. s ∷ trail n (step_back s d)) is

  either : (a b : Bool) → (a || b) ≡ true → (a ≡ true) ⊎ (b ≡ true)
  either true b h = inl refl
  either false b h = inr h

  -- Each signal on the way has the rest of the word.
  on_trail : (s : ℕ) (w : List Bool) (e q : ℕ) → IsWord ds s w e → list_any (eqb q) (trail (length w) s) ≡ true
      → (v : List Bool) × IsWord ds q v e × (length v ≤ length w)
  on_trail s [] e q h met = absurd (cc)
  on_trail s (i ∷ w) e q h met =
      elim (either (eqb q s) (list_any (eqb q) (trail (length w) h.0)) (subst (λ (qs : List ℕ). list_any (eqb q) qs ≡ true) (trail-latch (length w) s h.0 i h.1) met)) [
        | inl here ↦
            let same : q ≡ s = eqb-true q s here in
            (i ∷ w, subst (λ x. IsWord ds x (i ∷ w) e) (sym same) h, omega arith)
        | inr later ↦
            let (v, is, short) = on_trail h.0 w e q h.2 later in
            (v, is, omega arith)
      ]

  not_met : (b : Bool) → (b ≡ true → ⊥) → b ≡ false
  not_met true never = absurd (never refl)
  not_met false never = refl

  neither : (a b : Bool) → (a || b) ≡ false → (a ≡ false) × (b ≡ false)
  neither true b h = absurd (cc)
  neither false b h = (refl, h)

  apart : (q : ℕ) (xs : List ℕ) → list_any (eqb q) xs ≡ false → AllByRecursion (λ y. eqb q y ≡ false) xs
  apart q [] none = tt
  apart q (x ∷ xs) none =
      let (here, later) = neither (eqb q x) (list_any (eqb q) xs) none in
      (here, apart q xs later)

  -- No signal stands twice on the way, since its words would differ in length.
  distinct_trail : (s : ℕ) (w : List Bool) (e : ℕ) → IsWord ds s w e → IsDistinct eqb (trail (length w) s)
  unfolding IsDistinct
  distinct_trail s [] e h = tt
  distinct_trail s (i ∷ w) e h =
      let once : list_any (eqb s) (trail (length w) h.0) ≡ false = not_met (list_any (eqb s) (trail (length w) h.0)) (λ met.
      let (v, is, short) = on_trail h.0 w e s h.2 met in
      let same : v ≡ i ∷ w = (one_word ds s v (i ∷ w) e e is h).0 in
      let long : length v ≡ suc (length w) = ap length same in
      omega arith) in
      subst (λ (qs : List ℕ). IsDistinct eqb qs) (sym (trail-latch (length w) s h.0 i h.1)) (apart s (trail (length w) h.0) once, distinct_trail h.0 w e h.2)

  pub word_short : (s : ℕ) (w : List Bool) (e : ℕ) → IsWord ds s w e → length w ≤ length ds
  word_short s w e h =
      let few : length (trail (length w) s) ≤ length ds = length-le_from_distinct_below (trail (length w) s) (length ds) (distinct_trail s w e h)
      (λ q met. let (v, is, short) = on_trail s w e q h met in worded_within ds q v e is) in
      omega (arith, length-trail (length w) s)

  -- ---- whether a signal has a word

  -- A signal has a word, or none of fewer than so many latches.
  abbrev IsSearched : ℕ → ℕ → Type 0
  IsSearched n s = HasWord ds s ⊎ ((w : List Bool) (e : ℕ) → IsWord ds s w e → n ≤ length w)

  longer : (n s next : ℕ) (init : Bool) → drive_in ds s ≡ latch next init → ((w : List Bool) (e : ℕ) → IsWord ds next w e → n ≤ length w)
      → (w : List Bool) (e : ℕ) → IsWord ds s w e → suc n ≤ length w
  longer n s next init is none [] e h =
      absurd (let latched : is_latch (drive_in ds s) ≡ true = ap is_latch is in let not : is_latch (drive_in ds s) ≡ false = h.1 in cc)
  longer n s next init is none (i ∷ w) e h =
      let both : latch next init ≡ latch h.0 i = sym is ∙ h.1 in
      let same : next ≡ h.0 = cc in
      let rest : n ≤ length w = none w e (subst (λ x. IsWord ds x w e) (sym same) h.2) in
      omega arith

  search_step : (n s : ℕ) (d : Drive) → drive_in ds s ≡ d → ((next : ℕ) → IsSearched n next) → IsSearched (suc n) s
  search_step n s input is rest = inl ([], (s, (refl, ap is_latch is)))
  search_step n s (latch next init) is rest =
      elim (rest next) [
        | inl (w, (e, h)) ↦ inl (init ∷ w, (e, (next, is, h)))
        | inr none ↦ inr (longer n s next init is none)
      ]
  search_step n s (gate pins cover) is rest = inl ([], (s, (refl, ap is_latch is)))

  search_word : (n s : ℕ) → IsSearched n s
  search_word zero s = inr (λ w e h. omega arith)
  search_word (suc n) s = search_step n s (drive_in ds s) refl (λ next. search_word n next)

  pub word_or_none : (s : ℕ) → HasWord ds s ⊎ ¬ HasWord ds s
  word_or_none s =
      elim (search_word (suc (length ds)) s) [
        | inl has ↦ inl has
        | inr none ↦ inr (λ (w, (e, h)).
            let short : length w ≤ length ds = word_short s w e h in
            let long : suc (length ds) ≤ length w = none w e h in
            omega arith)
      ]

  -- ---- the least signal of a word

  no_latch_or_latch : (b : Bool) → (b ≡ false) ⊎ (b ≡ true)
  no_latch_or_latch true = inr refl
  no_latch_or_latch false = inl refl

  same_bit : (a b : Bool) → (a ≡ b) ⊎ (a ≡ b → ⊥)
  same_bit true true = inl refl
  same_bit true false = inr (λ e. cc)
  same_bit false true = inr (λ e. cc)
  same_bit false false = inl refl

  word_step : (s : ℕ) (i : Bool) (w : List Bool) (e : ℕ) (d : Drive) → drive_in ds s ≡ d
      → ((next : ℕ) → IsWord ds next w e ⊎ (IsWord ds next w e → ⊥)) → IsWord ds s (i ∷ w) e ⊎ (IsWord ds s (i ∷ w) e → ⊥)
  word_step s i w e input is rest = inr (λ h. let both : input ≡ latch h.0 i = sym is ∙ h.1 in cc)
  word_step s i w e (latch next init) is rest =
      elim (same_bit init i) [
        | inl bit ↦ elim (rest next) [
          | inl there ↦ inl (next, is ∙ ap (λ b. latch next b) bit, there)
          | inr not ↦ inr (λ h.
              let both : latch next init ≡ latch h.0 i = sym is ∙ h.1 in
              let same : next ≡ h.0 = cc in
              not (subst (λ x. IsWord ds x w e) (sym same) h.2))
        ]
        | inr differ ↦ inr (λ h.
            let both : latch next init ≡ latch h.0 i = sym is ∙ h.1 in
            let bit : init ≡ i = cc in
            differ bit)
      ]
  word_step s i w e (gate pins cover) is rest = inr (λ h. let both : gate pins cover ≡ latch h.0 i = sym is ∙ h.1 in cc)

  -- Whether a signal has a given word and source.
  is_word : (s : ℕ) (w : List Bool) (e : ℕ) → IsWord ds s w e ⊎ (IsWord ds s w e → ⊥)
  is_word s [] e =
      elim (cases_eq s e) [
        | inl same ↦ elim (no_latch_or_latch (is_latch (drive_in ds s))) [
          | inl not ↦ inl (same, not)
          | inr latched ↦ inr (λ h. let not : is_latch (drive_in ds s) ≡ false = h.1 in cc)
        ]
        | inr differ ↦ inr (λ h. differ h.0)
      ]
  is_word s (i ∷ w) e = word_step s i w e (drive_in ds s) refl (λ next. is_word next w e)

  -- The least signal of a word and a source.
  pub record IsFirstOf (w : List Bool) (e t : ℕ) : Type 0 where
    pub word : IsWord ds t w e
    pub least : (r : ℕ) → IsWord ds r w e → t ≤ r

  first_of_word : (w : List Bool) (e n : ℕ) → ((t : ℕ) × IsFirstOf w e t) ⊎ ((r : ℕ) → r < n → IsWord ds r w e → ⊥)
  first_of_word w e zero = inr (λ r below h. omega arith)
  first_of_word w e (suc n) =
      elim (first_of_word w e n) [
        | inl found ↦ inl found
        | inr none ↦ elim (is_word n w e) [
          | inl here ↦ inl (
            n,
            record {
              word = here;
              least = λ r h. elim (cases_lt r n) [ inl before ↦ absurd (none r before h) | inr after ↦ after ];
            },
          )
          | inr not ↦ inr (λ r below h. elim (cases_lt r n) [
            | inl before ↦ none r before h
            | inr after ↦
                let same : r ≡ n = omega arith in
                not (subst (λ x. IsWord ds x w e) same h)
          ])
        ]
      ]

  -- ---- the twin

  twin_of_word : (s : ℕ) (w : List Bool) (e : ℕ) → IsWord ds s w e → (t : ℕ) × IsTwin ds s t
  twin_of_word s w e h =
      elim (first_of_word w e (suc s)) [
        | inl (t, first) ↦ (
          t,
          record {
            equal = inr (w, (e, h, first.word));
            least = λ r (v, (f, hs, hr)).
                let (words, ends) = one_word ds s v w f e hs h in
                first.least r (word_along ds r v w f e words ends hr);
          },
        )
        | inr none ↦ absurd (none s (omega arith) h)
      ]

  pub some_twin : (s : ℕ) → (t : ℕ) × IsTwin ds s t
  some_twin s =
      elim (word_or_none s) [
        | inl (w, (e, h)) ↦ twin_of_word s w e h
        | inr none ↦ (s, record { equal = inl refl; least = λ r (w, (e, hs, hr)). absurd (none (w, (e, hs))) })
      ]
