-- Marks, labels and cuts after a write.
use Rattle.std.proofs.Common.{◌≡◌, ◌≢◌, ℕ, zero, suc, ◌<◌, ◌≤◌, Bool, true, false, List, [], ◌∷◌, length, refl, sym, ◌∙◌, ap, inl, inr, arith}
use Rattle.std.specs.Prelude.{slice_set, count_by, cond}
use Rattle.std.proofs.lemmas.Bool.{cases_lt, false≢true}
use Rattle.std.proofs.lemmas.List.{get_or-set_same, get_or-set_other, get_or_past}
use Rattle.std.proofs.lemmas.List.Sums.{sum_by-set}
use Rattle.tm_labels.specs.Marks.{is_marked}

-- What is marked stands among the marks.
pub marked_within : (marks : List Bool) (s : ℕ) → is_marked marks s ≡ true → s < length marks
marked_within marks s is = elim (cases_lt s (length marks)) [ inl within ↦ within | inr past ↦ absurd (false≢true (sym (get_or_past marks s false past) ∙ is)) ]

-- A mark that is taken away.
pub unmarked_here : (marks : List Bool) (s : ℕ) → is_marked (slice_set marks s false) s ≡ false
unmarked_here marks s =
    elim (cases_lt s (length marks)) [
      | inl within ↦ get_or-set_same marks s false false within
      | inr past ↦ unmarked_past marks s past
    ]
  where
    unmarked_past : (ms : List Bool) (i : ℕ) → length ms ≤ i → is_marked (slice_set ms i false) i ≡ false
    unmarked_past [] i out = refl
    unmarked_past (m ∷ ms) zero out = absurd (omega arith)
    unmarked_past (m ∷ ms) (suc i) out = unmarked_past ms i (omega arith)

pub unmarked_other : (marks : List Bool) (s t : ℕ) → t ≢ s → is_marked (slice_set marks s false) t ≡ is_marked marks t
unmarked_other marks s t differs = get_or-set_other marks s t false false differs

-- One mark less.
pub one_less : (marks : List Bool) (s : ℕ) → is_marked marks s ≡ true → count_by (λ m. m) (slice_set marks s false) < count_by (λ m. m) marks
one_less marks s is =
    let within = marked_within marks s is in
    let sum = sum_by-set (λ m. cond m 1 0) marks s false false within in
    let one : ◌≡◌ {A = ℕ} (cond (is_marked marks s) 1 0) 1 = ap (λ m. cond m 1 0) is in
    omega (arith, sum, one)
