-- What the drops of a replay are bounded by: their number, and the digits of their walks.
use Rattle.std.specs.Prelude.{ℕ, ◌<◌, List, [], Contains, All, ◌≢◌}
use Rattle.tm_replay.specs.Replays.{Drop}

-- A drop has a walk, no walk is empty, and each digit of a walk is below `k`.
pub record HasDigitWalks (k : ℕ) (drop : Drop) : Type 0 where
  pub some : drop.walks ≢ []
  pub no_empty : (w : List ℕ) → Contains drop.walks w → w ≢ []
  pub digits : (w : List ℕ) → Contains drop.walks w → All (λ i. i < k) w
