-- A circuit's period is at most the number of its signals, and no target from it on is refuted.
use Rattle.std.proofs.Common.{ℕ, ◌<◌, ◌≤◌, inl, inr, List, [], ◌∷◌, length, subst, arith}
use Rattle.std.specs.Prelude.{Contains}
use Rattle.std.proofs.lemmas.Bool.{cases_lt}
use Rattle.tm_circuit.specs.Plain.{Plain, widest}
use Rattle.tm_circuit.specs.Chain.{IsGate, IsChain as IsGateChain, IsPeriod, rank}
use Rattle.tm_circuit.specs.Sound.{IsSound}
use Rattle.tm_circuit.proofs.ListLemmas.{contains-none, contains-cases}
use Rattle.tm_circuit.proofs.PeriodLemmas.{rises_pin}
use Rattle.tm_unroll.specs.Latches.{need_of}
use Rattle.tm_unroll.specs.Mappings.{Table, IsLawfulFrom}
use Rattle.tm_unroll.specs.Chains.{HasChainsWithin}
use Rattle.tm_unroll.proofs.ListLemmas.{AreApart, few_below}
use Rattle.tm_unroll.proofs.JudgeLemmas.{gate_within}
use Rattle.tm_unroll.proofs.BehindLemmas.{needs_low}
use Rattle.tm_unroll.proofs.OwnLemmas.{own_serve_from}
use Rattle.tm_unroll.proofs.PeriodLemmas.{some_period}
use Rattle.tm_replay.specs.Replays.{Drop, RefutesFrom}
use Rattle.tm_replay.proofs.RefutationLemmas.{refuted_below}

-- ---- the period of a circuit

-- Along a chain each later gate has a greater rank than the first.
chain_above : (c : Plain) → IsSound c → (a : ℕ) (rest : List ℕ) → IsGateChain c.drives (a ∷ rest) → (x : ℕ) → Contains rest x → rank c a < rank c x
chain_above c sound a [] chain x stands = absurd (contains-none x stands)
chain_above c sound a (b ∷ rest) chain x stands =
    let first = rises_pin c.drives (rank c) sound.ranked a b chain.1 in
    elim (contains-cases b rest x stands) [
      | inl same ↦ subst (λ y. rank c a < rank c y) same first
      | inr later ↦ let ih = chain_above c sound b rest chain.2 x later in omega (arith, first, ih)
    ]

chain_apart : (c : Plain) → IsSound c → (chain : List ℕ) → IsGateChain c.drives chain → AreApart chain
chain_apart c sound [] chain = tt
chain_apart c sound (a ∷ rest) chain =
    (λ again. let up = chain_above c sound a rest chain a again in omega (arith, up), chain_apart c sound rest (tail a rest chain))
  where
    tail : (b : ℕ) (more : List ℕ) → IsGateChain c.drives (b ∷ more) → IsGateChain c.drives more
    tail b more is = is.2

chain_gates : (c : Plain) (chain : List ℕ) → IsGateChain c.drives chain → (x : ℕ) → Contains chain x → IsGate c.drives x
chain_gates c [] chain x stands = absurd (contains-none x stands)
chain_gates c (a ∷ rest) chain x stands =
    elim (contains-cases a rest x stands) [
      | inl same ↦ subst (λ y. IsGate c.drives y) same chain.0
      | inr later ↦ chain_gates c rest chain.2 x later
    ]

pub period_few : (c : Plain) (p : ℕ) → IsSound c → IsPeriod c p → p ≤ length c.drives
period_few c p sound period =
    let (chain, is, long) = period.reached in
    let few = few_below chain (length c.drives) (chain_apart c sound chain is) (λ x stands. gate_within c.drives x (chain_gates c chain is x stands)) in
    omega (arith, few, long)

-- ---- what is refuted

-- A refuted target has no lawful mapping within it.
pub refuted_excludes : (base : ℕ) (need : ℕ → ℕ) (c : Plain) (k d target : ℕ) (drops : List Drop) (tables : List Table) → IsSound c
    → RefutesFrom base need c k d target drops → IsLawfulFrom base need c k d tables → HasChainsWithin tables target → ⊥
refuted_excludes base need c k d target drops tables sound refutes lawful within =
    let (p, period) = some_period base need c k d tables sound lawful in
    let above = refuted_below base need c k d target drops tables p sound refutes lawful period in
    let (chain, is, long) = period.reached in
    let short = within chain is in
    omega (arith, above, long, short)

-- It is below the circuit's period.
pub refuted_low : (base : ℕ) (c : Plain) (k d target p : ℕ) (drops : List Drop) → IsSound c → base ≤ d → widest c.drives ≤ k → IsPeriod c p
    → RefutesFrom base (need_of base c) c k d target drops → target < p
refuted_low base c k d target p drops sound near narrow period refutes =
    elim (cases_lt target p) [
      | inl below ↦ below
      | inr high ↦
          let serve = own_serve_from base (need_of base c) c k d sound near (λ s stands. needs_low base c s) narrow in
          let (tables, own) = serve.some in
          absurd (refuted_excludes base (need_of base c) c k d target drops tables sound refutes (serve.lawful tables own)
          (λ chain is. let short = serve.within tables p own period chain is in omega (arith, short, high)))
    ]
