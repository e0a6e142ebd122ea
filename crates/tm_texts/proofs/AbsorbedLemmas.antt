-- Absorption leaves a least period as it is.
use Rattle.std.proofs.Common.{◌≡◌, ℕ, ◌≤◌, List, length, subst, arith}
use Rattle.tm_unroll.specs.Mappings.{Table}
use Rattle.tm_unroll.specs.Chains.{IsPeriodOf, HasChainsWithin}

-- tables whose chains are no longer than those of others, and whose period is no smaller, have the same period
pub kept_period : (old new : List Table) (p q : ℕ) → IsPeriodOf old p → IsPeriodOf new q → ((most : ℕ) → HasChainsWithin old most → HasChainsWithin new most)
    → p ≤ q → IsPeriodOf new p
kept_period old new p q old_is new_is within most =
    let (chain, chained, long) = new_is.reached in
    let low : length chain ≤ p = within p old_is.greatest chain chained in
    let same : q ≡ p = omega (arith, low, long, most) in
    subst (λ (n : ℕ). IsPeriodOf new n) same new_is
