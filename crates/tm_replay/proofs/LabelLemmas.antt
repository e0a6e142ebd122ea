-- The label next below one is the next below.
use Rattle.std.proofs.Common.{◌≡◌, ℕ, zero, suc, ◌+◌, ◌<◌, ◌≤◌, inl, inr, Some, arith}
use Rattle.std.specs.Prelude.{nat_lt}
use Rattle.std.proofs.lemmas.Bool.{cond_both, ltb-true, ltb-false}
use Rattle.tm_replay.specs.declared.label.Label.{Label}
use Rattle.tm_replay.specs.Labels.{label, IsWorse, below_lag, next_below, IsLabelFor, IsNextBelow}

-- The first label of a lag below.
lag_is_below : (d target lag arrival : ℕ) → 1 ≤ arrival → target ≤ arrival → IsNextBelow d target (label lag arrival) (below_lag lag)
lag_is_below d target zero arrival some late = record {
  worse = tt;
  none_between = λ y is worse next. elim worse [ inl less ↦ omega arith | inr same ↦ let most = is.most in let later = same.1 in omega (arith, most, later, late) ];
}
lag_is_below d target (suc l) arrival some late = record {
  worse = inl (omega arith);
  none_between = λ y is worse next. not_between y is worse next;
}
  where
    not_between : (y : Label) → IsLabelFor d target y → IsWorse (Some y) (Some (label (suc l) arrival)) → IsWorse (Some (label l 1)) (Some y) → ⊥
    not_between y is (inl less) (inl more) = omega (arith, less, more)
    not_between y is (inl less) (inr same) = let some = is.some in let early = same.1 in omega (arith, some, early)
    not_between y is (inr level) next = let most = is.most in let later = level.1 in omega (arith, most, later, late)

next_arrival : (d target lag arrival : ℕ) → arrival < target → IsNextBelow d target (label lag arrival) (Some (label lag (arrival + 1)))
next_arrival d target lag arrival in_time = record { worse = inr (refl_lag lag, omega arith); none_between = not_between }
  where
    refl_lag : (l : ℕ) → l ≡ l
    refl_lag l = omega arith

    not_between : (y : Label) → IsLabelFor d target y → IsWorse (Some y) (Some (label lag arrival)) → IsWorse (Some (label lag (arrival + 1))) (Some y) → ⊥
    not_between y is (inl less) (inl more) = omega (arith, less, more)
    not_between y is (inl less) (inr same) = let level = same.0 in omega (arith, less, level)
    not_between y is (inr level) (inl more) = let at = level.0 in omega (arith, at, more)
    not_between y is (inr level) (inr same) = let later = level.1 in let early = same.1 in omega (arith, later, early)

pub next_is_below : (d target : ℕ) (x : Label) → IsLabelFor d target x → IsNextBelow d target x (next_below target x)
next_is_below d target x is =
    cond_both (nat_lt x.arrival target) (Some (label x.lag (x.arrival + 1))) (below_lag x.lag) (λ y. IsNextBelow d target x y)
    (λ in_time. next_arrival d target x.lag x.arrival (ltb-true x.arrival target in_time))
    (λ late. lag_is_below d target x.lag x.arrival is.some (ltb-false x.arrival target late))
