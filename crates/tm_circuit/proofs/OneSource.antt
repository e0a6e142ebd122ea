-- A signal has one source.
use Rattle.std.proofs.Common.{◌≡◌, ℕ, zero, suc, ◌+◌, ◌≤◌, inl, inr, true, false, List, refl, sym, ◌∙◌, ap, subst, arith, zero-add, suc-add, ◌-◌}
use Rattle.std.proofs.lemmas.Bool.{cases_lt}
use Rattle.tm_circuit.specs.declared.sources.Source.{Source}
use Rattle.tm_circuit.specs.declared.sources.Source.TheVariants.{Input, Gate, Ring}
use Rattle.tm_circuit.specs.Plain.{Drive, input, latch, gate, drive_in, is_input, is_latch, is_gate}
use Rattle.tm_circuit.specs.Source.{step_back, back, IsSource}

-- what is no latch stays where it is
step-stays : (s : ℕ) (d : Drive) → is_latch d ≡ false → step_back s d ≡ s
step-stays s input h = refl
step-stays s (latch next init) h = cc
step-stays s (gate pins cover) h = refl

back-stays : (drives : List Drive) (s : ℕ) → is_latch (drive_in drives s) ≡ false → (n : ℕ) → back drives n s ≡ s
back-stays drives s h zero = refl
back-stays drives s h (suc n) = ap (λ t. back drives n t) (step-stays s (drive_in drives s) h) ∙ back-stays drives s h n

-- steps back one after another
back-add : (drives : List Drive) (n k s : ℕ) → back drives (n + k) s ≡ back drives k (back drives n s)
back-add drives zero k s = rw zero-add refl
back-add drives (suc n) k s = rw suc-add (back-add drives n k (step_back s (drive_in drives s)))

input-no_latch : (d : Drive) → is_input d ≡ true → is_latch d ≡ false
input-no_latch input h = refl
input-no_latch (latch next init) h = cc
input-no_latch (gate pins cover) h = refl

gate-no_latch : (d : Drive) → is_gate d ≡ true → is_latch d ≡ false
gate-no_latch input h = refl
gate-no_latch (latch next init) h = cc
gate-no_latch (gate pins cover) h = refl

-- two ends of the way back are one
one_end : (drives : List Drive) (s a b n m : ℕ) → is_latch (drive_in drives a) ≡ false → is_latch (drive_in drives b) ≡ false → back drives n s ≡ a → back drives m s ≡ b → a ≡ b
one_end drives s a b n m la lb ea eb =
    elim (cases_lt m n) [
      | inl before ↦ sym (further s b a m n (omega arith) lb eb ea)
      | inr after ↦ further s a b n m after la ea eb
    ]
  where
    further : (t x y i j : ℕ) → i ≤ j → is_latch (drive_in drives x) ≡ false → back drives i t ≡ x → back drives j t ≡ y → x ≡ y
    further t x y i j low lx ex ey =
        let split : j ≡ i + (j - i) = omega arith in
        sym (back-stays drives x lx (j - i)) ∙ ap (λ z. back drives (j - i) z) (sym ex) ∙ sym (back-add drives i (j - i) t) ∙ ap (λ k. back drives k t) (sym split) ∙ ey

no_ring : (drives : List Drive) (s a n : ℕ) → is_latch (drive_in drives a) ≡ false → back drives n s ≡ a → IsSource drives s Ring → ⊥
no_ring drives s a n la ea ring = let is : is_latch (drive_in drives a) ≡ true = subst (λ x. is_latch (drive_in drives x) ≡ true) ea (ring n) in cc

input-no_gate : (d : Drive) → is_input d ≡ true → is_gate d ≡ true → ⊥
input-no_gate input i g = cc
input-no_gate (latch next init) i g = cc
input-no_gate (gate pins cover) i g = cc

-- no signal leads to an input and to a gate
no_two : (drives : List Drive) (s a b : ℕ) → IsSource drives s (Input a) → IsSource drives s (Gate b) → ⊥
no_two drives s a b h k =
    let same = one_end drives s a b h.1.0 k.1.0 (input-no_latch (drive_in drives a) h.0) (gate-no_latch (drive_in drives b) k.0) h.1.1 k.1.1 in
    input-no_gate (drive_in drives b) (subst (λ x. is_input (drive_in drives x) ≡ true) same h.0) k.0

-- a signal has one source
pub one_source : (drives : List Drive) (s : ℕ) (e f : Source) → IsSource drives s e → IsSource drives s f → e ≡ f
one_source drives s (Input a) (Input b) h k =
    ap Input (one_end drives s a b h.1.0 k.1.0 (input-no_latch (drive_in drives a) h.0) (input-no_latch (drive_in drives b) k.0) h.1.1 k.1.1)
one_source drives s (Input a) (Gate b) h k = absurd (no_two drives s a b h k)
one_source drives s (Input a) Ring h k = absurd (no_ring drives s a h.1.0 (input-no_latch (drive_in drives a) h.0) h.1.1 k)
one_source drives s (Gate a) (Input b) h k = absurd (no_two drives s b a k h)
one_source drives s (Gate a) (Gate b) h k =
    ap Gate (one_end drives s a b h.1.0 k.1.0 (gate-no_latch (drive_in drives a) h.0) (gate-no_latch (drive_in drives b) k.0) h.1.1 k.1.1)
one_source drives s (Gate a) Ring h k = absurd (no_ring drives s a h.1.0 (gate-no_latch (drive_in drives a) h.0) h.1.1 k)
one_source drives s Ring (Input b) h k = absurd (no_ring drives s b k.1.0 (input-no_latch (drive_in drives b) k.0) k.1.1 h)
one_source drives s Ring (Gate b) h k = absurd (no_ring drives s b k.1.0 (gate-no_latch (drive_in drives b) k.0) k.1.1 h)
one_source drives s Ring Ring h k = refl
