-- What a gate reads behind latches.
use Rattle.std.specs.Prelude.{◌≡◌, ℕ, ◌-◌, ◌<◌, List, ◌∷◌, length, slice_index, replicate}
use Rattle.tm_circuit.specs.Plain.{Drive, drive_in, pins_of}
use Rattle.tm_unroll.specs.Latches.{behind_latches}
use Rattle.tm_inherit.specs.declared.reads.Read.{Read}

-- A read of one of some pins at a lag: the node to which latches lead from the pin at its place.
pub record IsReadAmong (drives : List Drive) (pins : List ℕ) (lag : ℕ) (r : Read) : Type 0 where
  pub within : r.index < length pins
  pub node : r.node ≡ behind_latches drives lag (slice_index pins r.index)

-- A read of a gate at a lag.
abbrev pub IsRead : List Drive → ℕ → ℕ → Read → Type 0
IsRead drives g lag r = IsReadAmong drives (pins_of (drive_in drives g)) lag r

-- The digits that lead from a gate at a lag to what it reads: the place of the pin, and a 0 for each latch.
abbrev pub way_to : ℕ → Read → List ℕ
way_to lag r = r.index ∷ replicate (lag - r.node.advance) 0
