-- How many latches following a signal to its source meets: no more than there are signals, so that following ends.
use Rattle.std.proofs.Common.{◌≡◌, ℕ, zero, suc, ◌<◌, ◌≤◌, eqb, inl, inr, Bool, true, false, List, [], ◌∷◌, length, refl, sym, ◌∙◌, ap, subst, arith}
use Rattle.std.specs.List.{AllByRecursion, IsDistinct, list_any}
use Rattle.std.proofs.lemmas.Bool.{ne_eqb, eqb-true, or_cases}
use Rattle.std.proofs.lemmas.Map.Steps.{length-le_from_distinct_below}
use Rattle.tm_circuit.specs.Plain.{Drive, input, latch, gate, drive_in, is_latch}
use Rattle.tm_circuit.specs.Source.{step_back}
use Rattle.tm_twins.specs.Twins.{IsWord}
use Rattle.tm_twins.specs.Classes.{IsFed}
use Rattle.tm_twins.proofs.Words.{one_word, worded_within}

-- The steps of a drive by the steps of its next: one more for a latch, none for all else.
abbrev pub steps_by : (ℕ → ℕ) → Drive → ℕ
steps_by steps input = 0
steps_by steps (latch next init) = suc (steps next)
steps_by steps (gate pins cover) = 0

-- The latches that are met, at most so many.
abbrev pub steps_within : ℕ → List Drive → ℕ → ℕ
steps_within zero drives s = 0
steps_within (suc n) drives s = steps_by (λ t. steps_within n drives t) (drive_in drives s)

unfoldable pub steps : List Drive → ℕ → ℕ
steps drives s = steps_within (length drives) drives s

no_steps : (f : ℕ → ℕ) (d : Drive) → is_latch d ≡ false → steps_by f d ≡ 0
no_steps f input h = refl
no_steps f (latch next init) h = absurd (cc)
no_steps f (gate pins cover) h = refl

steps_of_word : (drives : List Drive) (n s : ℕ) (w : List Bool) (e : ℕ) → IsWord drives s w e → length w ≤ n
    → steps_within n drives s ≡ length w
steps_of_word drives zero s [] e h few = refl
steps_of_word drives zero s (i ∷ w) e h few = absurd (omega arith)
steps_of_word drives (suc n) s [] e h few = no_steps (λ t. steps_within n drives t) (drive_in drives s) h.1
steps_of_word drives (suc n) s (i ∷ w) e h few =
    let less : length w ≤ n = omega arith in
    ap (λ d. steps_by (λ t. steps_within n drives t) d) h.1 ∙ ap (λ k. suc k) (steps_of_word drives n h.0 w e h.2 less)

-- ---- a word is no longer than the signals are many

-- The latches that a word goes through.
way : (drives : List Drive) (s : ℕ) (w : List Bool) (e : ℕ) → IsWord drives s w e → List ℕ
way drives s [] e h = []
way drives s (i ∷ w) e h = s ∷ way drives h.0 w e h.2

length_way : (drives : List Drive) (s : ℕ) (w : List Bool) (e : ℕ) (h : IsWord drives s w e)
    → length (way drives s w e h) ≡ length w
unfolding way
length_way drives s [] e h = refl
length_way drives s (i ∷ w) e h = ap (λ k. suc k) (length_way drives h.0 w e h.2)

-- A signal is apart from those of shorter words.
apart_way : (drives : List Drive) (s t : ℕ) (v w : List Bool) (e : ℕ) → IsWord drives s v e → (h : IsWord drives t w e)
    → length w < length v → AllByRecursion (λ y. eqb s y ≡ false) (way drives t w e h)
unfolding way
apart_way drives s t v [] e k h shorter = tt
apart_way drives s t v (i ∷ w) e k h shorter =
    let apart : s ≡ t → ⊥ = λ same.
    let words = one_word drives s v (i ∷ w) e e k (subst (λ x. IsWord drives x (i ∷ w) e) (sym same) h) in
    let lengths : length v ≡ length (i ∷ w) = ap length words.0 in
    omega arith in
    (ne_eqb s t apart, apart_way drives s h.0 v w e k h.2 (omega arith))

distinct_way : (drives : List Drive) (s : ℕ) (w : List Bool) (e : ℕ) (h : IsWord drives s w e)
    → IsDistinct eqb (way drives s w e h)
unfolding way IsDistinct
distinct_way drives s [] e h = tt
distinct_way drives s (i ∷ w) e h =
    (apart_way drives s h.0 (i ∷ w) w e h h.2 (omega arith), distinct_way drives h.0 w e h.2)

below_way : (drives : List Drive) (s : ℕ) (w : List Bool) (e : ℕ) (h : IsWord drives s w e) (q : ℕ)
    → list_any (eqb q) (way drives s w e h) ≡ true → q < length drives
unfolding way
below_way drives s [] e h q among = absurd (cc)
below_way drives s (i ∷ w) e h q among =
    elim (or_cases (eqb q s) (list_any (eqb q) (way drives h.0 w e h.2)) among) [
      | inl here ↦ subst (λ x. x < length drives) (sym (eqb-true q s here)) (worded_within drives s (i ∷ w) e h)
      | inr later ↦ below_way drives h.0 w e h.2 q later
    ]

pub word_short : (drives : List Drive) (s : ℕ) (w : List Bool) (e : ℕ) → IsWord drives s w e
    → length w ≤ length drives
word_short drives s w e h =
    subst (λ n. n ≤ length drives) (length_way drives s w e h)
    (length-le_from_distinct_below (way drives s w e h) (length drives) (distinct_way drives s w e h) (below_way drives s w e h))

-- Each step leaves one less.
pub steps_fall : (drives : List Drive) (s : ℕ) → IsFed drives s
    → steps drives (step_back s (drive_in drives s)) < steps drives s
unfolding steps
steps_fall drives s (init, (w, (e, h))) =
    let short : length (init ∷ w) ≤ length drives = word_short drives s (init ∷ w) e h in
    let here : steps_within (length drives) drives s ≡ length (init ∷ w) = steps_of_word drives (length drives) s (init ∷ w) e h short in
    let less : length w ≤ length drives = omega arith in
    let there : steps_within (length drives) drives h.0 ≡ length w = steps_of_word drives (length drives) h.0 w e h.2 less in
    let back : h.0 ≡ step_back s (drive_in drives s) = sym (ap (λ d. step_back s d) h.1) in
    let there' : steps_within (length drives) drives (step_back s (drive_in drives s)) ≡ length w =
    subst (λ x. steps_within (length drives) drives x ≡ length w) back there in
    omega arith
