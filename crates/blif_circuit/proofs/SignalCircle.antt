-- In a sound circuit no gates read one another in a circle.
use Rattle.std.proofs.Common.{ℕ, ◌<◌, List, [], ◌∷◌, ◌++◌, arith}
use Rattle.std.specs.Prelude.{Contains}
use Rattle.tm_circuit.specs.Plain.{Plain, Drive, input, latch, gate, pins_of, drive_in}
use Rattle.tm_circuit.specs.Chain.{IsChain, HasCircle, IsRanked, RisesTo, rank}
use Rattle.tm_circuit.specs.Sound.{IsSound}

nothing : (x : ℕ) → Contains [] x → ⊥
nothing x h = omega (arith, h.1)

rises_at : (height : ℕ → ℕ) (a b : ℕ) (d : Drive) → RisesTo height b d → Contains (pins_of d) a → height a < height b
rises_at height a b input r p = absurd (nothing a p)
rises_at height a b (latch next init) r p = absurd (nothing a p)
rises_at height a b (gate pins cover) r p = r a p

chain_rises : (drives : List Drive) (height : ℕ → ℕ) → IsRanked drives height → (through : List ℕ) (a b : ℕ) → IsChain drives (a ∷ (through ++ b ∷ [])) → height a < height b
chain_rises drives height r [] a b h = rises_at height a b (drive_in drives b) (r.rises b) h.1
chain_rises drives height r (x ∷ through) a b h =
    let first = rises_at height a x (drive_in drives x) (r.rises x) h.1 in
    let rest = chain_rises drives height r through x b h.2 in
    omega (arith, first, rest)

pub no_circle : (c : Plain) → IsSound c → ¬ HasCircle c.drives
no_circle c s h = let up = chain_rises c.drives (rank c) s.ranked h.1.0 h.0 h.0 h.1.1 in omega (arith, up)
