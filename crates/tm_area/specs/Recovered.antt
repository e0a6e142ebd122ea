-- What a recovered mapping is.
use Rattle.std.specs.Prelude.{ℕ, ◌≤◌, List, length}
use Rattle.tm_circuit.specs.Plain.{Plain}
use Rattle.tm_unroll.specs.Mappings.{Table, IsLawful}
use Rattle.tm_unroll.specs.Chains.{HasChainsWithin}

-- Tables that may stand in place of others: they are lawful, and have no longer chains and are no more than those.
pub record IsRecovered (c : Plain) (k d : ℕ) (old new : List Table) : Type 0 where
  pub lawful : IsLawful c k d new
  pub within : (most : ℕ) → HasChainsWithin old most → HasChainsWithin new most
  pub fewer : length new ≤ length old
