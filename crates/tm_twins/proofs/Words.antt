-- Initial words: a signal has one at most, and twins by them.
use Rattle.std.proofs.Common.{◌≡◌, ℕ, zero, suc, ◌<◌, ◌≤◌, ◌⊎◌, inl, inr, Bool, true, false, List, [], ◌∷◌, length, refl, sym, ◌∙◌, ap, subst, arith}
use Rattle.std.proofs.lemmas.Bool.{cases_lt}
use Rattle.std.proofs.lemmas.List.{get_or_past}
use Rattle.tm_circuit.specs.declared.sources.Source.TheVariants.{Input, Gate, Ring}
use Rattle.tm_circuit.specs.Plain.{Drive, input, latch, gate, drive_in, is_input, is_latch, is_gate}
use Rattle.tm_circuit.specs.Source.{step_back, back, IsSource}
use Rattle.tm_twins.specs.Twins.{IsWord, HasWord, AreEqual, IsTwin}

-- ---- one word

pub one_word : (drives : List Drive) (s : ℕ) (w v : List Bool) (e f : ℕ) → IsWord drives s w e → IsWord drives s v f
    → (w ≡ v) × (e ≡ f)
one_word drives s [] [] e f h k = (refl, sym h.0 ∙ k.0)
one_word drives s [] (i ∷ v) e f h k = absurd (let is : is_latch (drive_in drives s) ≡ true = ap is_latch k.1 in cc)
one_word drives s (i ∷ w) [] e f h k = absurd (let is : is_latch (drive_in drives s) ≡ true = ap is_latch h.1 in cc)
one_word drives s (i ∷ w) (j ∷ v) e f h k =
    let same : latch h.0 i ≡ latch k.0 j = sym h.1 ∙ k.1 in
    let next : h.0 ≡ k.0 = cc in
    let init : i ≡ j = cc in
    let rest = one_word drives k.0 w v e f (subst (λ n. IsWord drives n w e) next h.2) k.2 in
    let words : w ≡ v = rest.0 in
    let all : i ∷ w ≡ j ∷ v = cc in
    (all, rest.1)

-- A word and a source, moved along equations.
pub word_along : (drives : List Drive) (s : ℕ) (w v : List Bool) (e f : ℕ) → w ≡ v → e ≡ f → IsWord drives s w e
    → IsWord drives s v f
word_along drives s w v e f words ends h =
    subst (λ x. IsWord drives s x f) words (subst (λ x. IsWord drives s w x) ends h)

-- A signal past the end has no word.
pub past_no_word : (drives : List Drive) (s : ℕ) (w : List Bool) (e : ℕ) → length drives ≤ s → IsWord drives s w e → ⊥
past_no_word drives s [] e past h =
    let itself : drive_in drives s ≡ latch s false = get_or_past drives s (latch s false) past in
    let is : is_latch (drive_in drives s) ≡ true = ap is_latch itself in
    let isnt : is_latch (drive_in drives s) ≡ false = h.1 in
    cc
past_no_word drives s (i ∷ w) e past h =
    let itself : drive_in drives s ≡ latch s false = get_or_past drives s (latch s false) past in
    let same : latch s false ≡ latch h.0 i = sym itself ∙ h.1 in
    let next : s ≡ h.0 = cc in
    past_no_word drives h.0 w e (subst (λ n. length drives ≤ n) next past) h.2

pub worded_within : (drives : List Drive) (s : ℕ) (w : List Bool) (e : ℕ) → IsWord drives s w e → s < length drives
worded_within drives s w e h =
    elim (cases_lt s (length drives)) [ inl within ↦ within | inr past ↦ absurd (past_no_word drives s w e past h) ]

-- ---- words and sources

pub back_word : (drives : List Drive) (s : ℕ) (w : List Bool) (e : ℕ) → IsWord drives s w e
    → back drives (length w) s ≡ e
back_word drives s [] e h = h.0
back_word drives s (i ∷ w) e h = ap (λ d. back drives (length w) (step_back s d)) h.1 ∙ back_word drives h.0 w e h.2

pub end_no_latch : (drives : List Drive) (s : ℕ) (w : List Bool) (e : ℕ) → IsWord drives s w e
    → is_latch (drive_in drives e) ≡ false
end_no_latch drives s [] e h = subst (λ x. is_latch (drive_in drives x) ≡ false) h.0 h.1
end_no_latch drives s (i ∷ w) e h = end_no_latch drives h.0 w e h.2

input_or_gate : (d : Drive) → is_latch d ≡ false → (is_input d ≡ true) ⊎ (is_gate d ≡ true)
input_or_gate input h = inl refl
input_or_gate (latch next init) h = absurd (cc)
input_or_gate (gate pins cover) h = inr refl

pub source_of_word : (drives : List Drive) (s e : ℕ) (w : List Bool) → IsWord drives s w e
    → IsSource drives s (Input e) ⊎ IsSource drives s (Gate e)
source_of_word drives s e w h =
    elim (input_or_gate (drive_in drives e) (end_no_latch drives s w e h)) [
      | inl is ↦ inl (is, (length w, back_word drives s w e h))
      | inr is ↦ inr (is, (length w, back_word drives s w e h))
    ]

word_step : (drives : List Drive) (s e : ℕ) (d : Drive) → drive_in drives s ≡ d
    → (w : List Bool) × IsWord drives (step_back s d) w e → (w : List Bool) × IsWord drives s w e
word_step drives s e input is h = h
word_step drives s e (latch next init) is (w, h) = (init ∷ w, (next, is, h))
word_step drives s e (gate pins cover) is h = h

pub word_from_back : (drives : List Drive) (n s e : ℕ) → back drives n s ≡ e → is_latch (drive_in drives e) ≡ false
    → (w : List Bool) × IsWord drives s w e
word_from_back drives zero s e there no_latch =
    ([], (there, subst (λ x. is_latch (drive_in drives x) ≡ false) (sym there) no_latch))
word_from_back drives (suc n) s e there no_latch =
    word_step drives s e (drive_in drives s) refl (word_from_back drives n (step_back s (drive_in drives s)) e there no_latch)

input_no_latch : (d : Drive) → is_input d ≡ true → is_latch d ≡ false
input_no_latch input h = refl
input_no_latch (latch next init) h = cc
input_no_latch (gate pins cover) h = refl

gate_no_latch : (d : Drive) → is_gate d ≡ true → is_latch d ≡ false
gate_no_latch input h = refl
gate_no_latch (latch next init) h = cc
gate_no_latch (gate pins cover) h = refl

pub word_from_input : (drives : List Drive) (s e : ℕ) → IsSource drives s (Input e)
    → (w : List Bool) × IsWord drives s w e
word_from_input drives s e (is, (n, there)) = word_from_back drives n s e there (input_no_latch (drive_in drives e) is)

pub word_from_gate : (drives : List Drive) (s e : ℕ) → IsSource drives s (Gate e)
    → (w : List Bool) × IsWord drives s w e
word_from_gate drives s e (is, (n, there)) = word_from_back drives n s e there (gate_no_latch (drive_in drives e) is)

pub word_from_source : (drives : List Drive) (s e : ℕ) → IsSource drives s (Input e) ⊎ IsSource drives s (Gate e)
    → HasWord drives s
word_from_source drives s e (inl h) = let (w, is) = word_from_input drives s e h in (w, (e, is))
word_from_source drives s e (inr h) = let (w, is) = word_from_gate drives s e h in (w, (e, is))

-- What leads into a ring has no word.
pub ring_no_word : (drives : List Drive) (s e : ℕ) (w : List Bool) → IsSource drives s Ring → IsWord drives s w e → ⊥
ring_no_word drives s e w ring h =
    let is : is_latch (drive_in drives e) ≡ true =
    subst (λ x. is_latch (drive_in drives x) ≡ true) (back_word drives s w e h) (ring (length w)) in
    let isnt : is_latch (drive_in drives e) ≡ false = end_no_latch drives s w e h in
    cc

-- ---- equal signals

pub equal_sym : (drives : List Drive) (q r : ℕ) → AreEqual drives q r → AreEqual drives r q
equal_sym drives q r (w, (e, hq, hr)) = (w, (e, hr, hq))

pub word_moves : (drives : List Drive) (q r : ℕ) (w : List Bool) (e : ℕ) → AreEqual drives q r → IsWord drives q w e
    → IsWord drives r w e
word_moves drives q r w e (v, (f, hq, hr)) h =
    let same = one_word drives q v w f e hq h in
    word_along drives r v w f e same.0 same.1 hr

pub equal_trans : (drives : List Drive) (q r s : ℕ) → AreEqual drives q r → AreEqual drives r s → AreEqual drives q s
equal_trans drives q r s (w, (e, hq, hr)) second = (w, (e, hq, word_moves drives r s w e second hr))

-- ---- twins

pub twin_word : (drives : List Drive) (p t : ℕ) (w : List Bool) (e : ℕ) → IsTwin drives p t → IsWord drives p w e
    → IsWord drives t w e
twin_word drives p t w e twin h =
    elim twin.equal [ inl same ↦ subst (λ x. IsWord drives x w e) (sym same) h | inr equal ↦ word_moves drives p t w e equal h ]

pub word_twin : (drives : List Drive) (p t : ℕ) (w : List Bool) (e : ℕ) → IsTwin drives p t → IsWord drives t w e
    → IsWord drives p w e
word_twin drives p t w e twin h =
    elim twin.equal [ inl same ↦ subst (λ x. IsWord drives x w e) same h | inr equal ↦ word_moves drives t p w e (equal_sym drives p t equal) h ]

pub own_twin : (drives : List Drive) (s t : ℕ) → ¬ HasWord drives s → IsTwin drives s t → t ≡ s
own_twin drives s t none twin =
    elim twin.equal [ inl same ↦ same | inr (w, (e, hs, ht)) ↦ absurd (none (w, (e, hs))) ]

pub equal_twin : (drives : List Drive) (s t : ℕ) → HasWord drives s → IsTwin drives s t → AreEqual drives s t
equal_twin drives s t (w, (e, h)) twin = (w, (e, h, twin_word drives s t w e twin h))

pub past_twin : (drives : List Drive) (s t : ℕ) → length drives ≤ s → IsTwin drives s t → t ≡ s
past_twin drives s t past twin = own_twin drives s t (λ (w, (e, h)). past_no_word drives s w e past h) twin

pub one_twin : (drives : List Drive) (s t u : ℕ) → IsTwin drives s t → IsTwin drives s u → t ≡ u
one_twin drives s t u h k =
    elim h.equal [
      | inl t_own ↦ elim k.equal [
        | inl u_own ↦ t_own ∙ sym u_own
        | inr (w, (e, hs, hu)) ↦
            let low : t ≤ u = h.least u (w, (e, hs, hu)) in
            let high : u ≤ s = k.least s (w, (e, hs, hs)) in
            omega arith
      ]
      | inr (w, (e, hs, ht)) ↦
          let low : u ≤ t = k.least t (w, (e, hs, ht)) in
          let high : t ≤ u = h.least u (w, (e, hs, twin_word drives s u w e k hs)) in
          omega arith
    ]

pub twin_settled : (drives : List Drive) (s t : ℕ) → IsTwin drives s t → IsTwin drives t t
twin_settled drives s t twin = record {
  equal = inl refl;
  least = λ r (w, (e, ht, hr)). twin.least r (w, (e, word_twin drives s t w e twin ht, hr));
}
