-- The least period by its two settlings: some lawful mapping has it, and none has a smaller one. Settlings of all gates at the same
-- targets keep and lose just so.
use Rattle.std.proofs.Common.{◌≡◌, ℕ, suc, ◌<◌, ◌≤◌, inl, inr, List, Option, None, Some, sym, subst, arith}
use Rattle.std.specs.Prelude.{MatchOption}
use Rattle.std.proofs.lemmas.Bool.{cases_eq}
use Rattle.tm_circuit.specs.Plain.{Plain, widest}
use Rattle.tm_circuit.specs.Chain.{IsPeriod}
use Rattle.tm_circuit.specs.Sound.{IsSound}
use Rattle.tm_unroll.specs.Latches.{need_of}
use Rattle.tm_unroll.specs.Mappings.{Table, IsLawfulFrom}
use Rattle.tm_unroll.specs.Chains.{HasChainsWithin, IsPeriodOf}
use Rattle.tm_unroll.proofs.PeriodLemmas.{some_period}
use Rattle.tm_replay.specs.declared.label.Label.{Label}
use Rattle.tm_replay.specs.Replays.{HaveLost, RefutesFrom}
use Rattle.tm_replay.proofs.RefutationLemmas.{refuted_below}
use Rattle.tm_labels.specs.Settled.{Settling, LeadTo, IsSettledForOutputs}
use Rattle.tm_cover.specs.Chosen.{AreChosen}
use Rattle.tm_cover.proofs.TableLemmas.{chosen_lawful, chosen_within}
use Rattle.tm_cover.proofs.SomeLemmas.{some_mapping}
use Rattle.tm_search.specs.declared.least.Least.{Least}
use Rattle.tm_search.specs.Least.{Refutes, Reaches, IsLeast}
use Rattle.tm_search.specs.Optimal.{IsLeastPeriodFrom}
use Rattle.tm_search.proofs.LostLemmas.{lost_or_kept}
use Rattle.tm_search.proofs.PeriodLemmas.{refuted_excludes, refuted_low}

-- Drops that lead to labels that have lost an output refute.
pub led_refutes : (base : ℕ) (need : ℕ → ℕ) (c : Plain) (k d target : ℕ) (s : Settling) → LeadTo base c k d target s.drops s.labels → HaveLost need c s.labels
    → RefutesFrom base need c k d target s.drops
led_refutes base need c k d target s led lost = record {
  replays = led.replays;
  lost = subst (λ (ls : List (Option Label)). HaveLost need c ls) led.led lost;
}

pub refutes_from : (base : ℕ) (c : Plain) (k d period : ℕ) (s : Settling) → Refutes base c k d period s → RefutesFrom base (need_of base c) c k d s.target s.drops
refutes_from base c k d period s refutes = led_refutes base (need_of base c) c k d s.target s refutes.led refutes.lost

-- A settling that refutes a target is of one below the circuit's period.
pub refuted_target : (base : ℕ) (c : Plain) (k d period p : ℕ) (s : Settling) → IsSound c → base ≤ d → widest c.drives ≤ k → IsPeriod c p → Refutes base c k d period s
    → s.target < p
refuted_target base c k d period p s sound near narrow is refutes =
    refuted_low base c k d s.target p s.drops sound near narrow is (refutes_from base c k d period s refutes)

module _ (base : ℕ) (c : Plain) (k d : ℕ) (sound : IsSound c) where
  -- The settling at the least period gives a lawful mapping within it.
  reached_mapping : (period : ℕ) (s : Settling) → Reaches base c k d period s
      → (tables : List Table) × IsLawfulFrom base (need_of base c) c k d tables × HasChainsWithin tables period
  reached_mapping period s reaches =
      let (tables, lawful, within) = some_mapping base c k d s sound reaches.settled (need_of base c) reaches.kept in
      (tables, lawful, subst (λ n. HasChainsWithin tables n) reaches.target within)

  -- A period above 0 has a settling just below that refutes.
  below_refutes : (period : ℕ) (below : Option Settling) → MatchOption below (period ≡ 0) (Refutes base c k d period) → (period ≡ 0 → ⊥)
      → (s : Settling) × Refutes base c k d period s
  below_refutes period None none some = absurd (some none)
  below_refutes period (Some s) refutes some = (s, refutes)

  module _ (least : Least) (is : IsLeast base c k d least) where
    -- No lawful mapping has a smaller period.
    pub none_smaller : (tables : List Table) (p : ℕ) → IsLawfulFrom base (need_of base c) c k d tables → IsPeriodOf tables p → least.period ≤ p
    none_smaller tables p lawful period =
        elim (cases_eq least.period 0) [
          | inl none ↦ omega (arith, none)
          | inr some ↦
              let (s, refutes) = below_refutes least.period least.below is.below some in
              let above = refuted_below base (need_of base c) c k d s.target s.drops tables p sound (refutes_from base c k d least.period s refutes) lawful period in
              let target = refutes.target in
              omega (arith, above, target)
        ]

    -- So a lawful mapping within the least period has it.
    has_least : (tables : List Table) → IsLawfulFrom base (need_of base c) c k d tables → HasChainsWithin tables least.period → IsPeriodOf tables least.period
    has_least tables lawful within =
        let (p, period) = some_period base (need_of base c) c k d tables sound lawful in
        let low = none_smaller tables p lawful period in
        let (chain, of, long) = period.reached in
        let short = within chain of in
        let same : p ≡ least.period = omega (arith, low, long, short) in
        subst (λ n. IsPeriodOf tables n) same period

    pub chosen_period : (tables : List Table) → AreChosen c least.at tables → IsPeriodOf tables least.period
    chosen_period tables chosen =
        let at = is.at in
        has_least tables (chosen_lawful base (need_of base c) c k d least.at sound at.settled at.kept tables chosen)
        (subst (λ n. HasChainsWithin tables n) at.target (chosen_within base (need_of base c) c k d least.at sound at.settled at.kept tables chosen))

    pub least_period : IsLeastPeriodFrom base (need_of base c) c k d least.period
    least_period =
        let (tables, lawful, within) = reached_mapping least.period least.at is.at in
        record { some = (tables, lawful, has_least tables lawful within); none_smaller = none_smaller }

    -- A settling at the least period keeps all outputs.
    pub at_keeps : (s : Settling) → LeadTo base c k d s.target s.drops s.labels → s.target ≡ least.period → HaveLost (need_of base c) c s.labels → ⊥
    at_keeps s led target lost =
        let (tables, lawful, within) = reached_mapping least.period least.at is.at in
        refuted_excludes base (need_of base c) c k d s.target s.drops tables sound (led_refutes base (need_of base c) c k d s.target s led lost) lawful
        (subst (λ n. HasChainsWithin tables n) (sym target) within)

    -- A settling of the target just below loses one.
    pub below_loses : (s : Settling) → IsSettledForOutputs base c k d s → suc s.target ≡ least.period → HaveLost (need_of base c) c s.labels
    below_loses s settled target =
        elim (lost_or_kept (need_of base c) c sound s.labels) [
          | inl lost ↦ lost
          | inr kept ↦
              let (tables, lawful, within) = some_mapping base c k d s sound settled (need_of base c) kept in
              let (p, period) = some_period base (need_of base c) c k d tables sound lawful in
              let low = none_smaller tables p lawful period in
              let (chain, of, long) = period.reached in
              let short = within chain of in
              absurd (omega (arith, low, long, short, target))
        ]
