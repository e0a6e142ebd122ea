-- What a target comes to that is tried.
use Rattle.std.specs.Prelude.{◌≡◌, ◌≤◌, ℕ, suc, length}
use Rattle.tm_circuit.specs.Plain.{Plain}
use Rattle.tm_search.specs.declared.least.Least.{Least}
use Rattle.tm_search.specs.declared.least.Tried.{Tried}
use Rattle.tm_search.specs.declared.least.Tried.TheVariants.{Reached, Refuted}
use Rattle.tm_search.specs.Least.{Refutes, Reaches, IsLeast}

-- The settling of a target that was tried reaches it, with a cut for each signal, or refutes it.
abbrev pub IsTried : ℕ → Plain → ℕ → ℕ → ℕ → Tried → Type 0
IsTried base c k d target (Reached s) = Reaches base c k d target s × (length s.cuts ≡ length c.drives)
IsTried base c k d target (Refuted s) = Refutes base c k d (suc target) s

-- The least period, found by targets of at most 100,000, with a cut for each signal.
pub record IsFound (base : ℕ) (c : Plain) (k d : ℕ) (least : Least) : Type 0 where
  pub is_least : IsLeast base c k d least
  pub low : least.period ≤ 100000
  pub sized : length least.at.cuts ≡ length c.drives
