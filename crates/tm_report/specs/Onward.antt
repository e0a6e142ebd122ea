-- How far chains go on behind each signal, and what is worked out of it.
use Rattle.std.specs.Prelude.{◌≡◌, ℕ, zero, suc, ◌+◌, ◌-◌, ◌<◌, ◌≤◌, ◌⊎◌, List, [], ◌∷◌, length, Contains, slice_index_or}
use Rattle.tm_circuit.specs.Plain.{Plain, gate_count}
use Rattle.tm_circuit.specs.Chain.{IsGate, IsPin, rank}
use Rattle.tm_report.specs.declared.onward.Onward.{Onward}

-- What stands for a signal, read by a number: past the end there are no gates behind it.
abbrev pub onward_at : List Onward → ℕ → Onward
onward_at onward s = slice_index_or onward s (record { gates = 0; next = 0 })

-- The number of gates behind a signal.
abbrev pub behind : List Onward → ℕ → ℕ
behind onward s = (onward_at onward s).gates

-- The better of two ways on: the longer one, and of two that are equally long the one with the lesser next gate.
abbrev pub IsBetter : Onward → Onward → Onward → Type 0
IsBetter held offered taken =
    ((taken ≡ offered) × ((held.gates < offered.gates) ⊎ ((held.gates ≡ offered.gates) × (offered.next < held.next))))
    ⊎ ((taken ≡ held) × ((offered.gates < held.gates) ⊎ ((held.gates ≡ offered.gates) × (held.next ≤ offered.next))))

-- Some signals were offered a way on, and each took the better one; all others stay.
pub record OffersAll (old new : List Onward) (signals : List ℕ) (step : Onward) : Type 0 where
  pub sized : length new ≡ length old
  pub each : (s : ℕ) → s < length old
      → (Contains signals s × IsBetter (onward_at old s) step (onward_at new s))
      ⊎ (¬ Contains signals s × (onward_at new s ≡ onward_at old s))

-- A way on behind a signal, among some of the gates that read it: one gate more than behind the reader that has most
-- behind it, next to the least such reader; no gates where there is no reader.
pub record IsBest (onward : List Onward) (Reads : ℕ → Type 0) (best : Onward) : Type 0 where
  pub above : (r : ℕ) → Reads r → suc (behind onward r) ≤ best.gates
  pub reached : (best.gates ≡ 0) ⊎ (Reads best.next × (suc (behind onward best.next) ≡ best.gates))
  pub least : (r : ℕ) → Reads r → suc (behind onward r) ≡ best.gates → best.next ≤ r

-- The ways on behind all signals, of a circuit of which some gates were looked at.
pub record IsSwept (c : Plain) (looked : List ℕ) (onward : List Onward) : Type 0 where
  pub sized : length onward ≡ length c.drives
  pub best : (s : ℕ) → s < length c.drives → IsBest onward (λ r. Contains looked r × IsPin c.drives s r) (onward_at onward s)
  pub bounded : (s : ℕ) → behind onward s + rank c s ≤ gate_count c.drives

-- The ways on behind all signals of a circuit.
pub record IsOnward (c : Plain) (onward : List Onward) : Type 0 where
  pub sized : length onward ≡ length c.drives
  pub best : (s : ℕ) → s < length c.drives → IsBest onward (IsPin c.drives s) (onward_at onward s)
  pub bounded : (s : ℕ) → behind onward s + rank c s ≤ gate_count c.drives

-- The first gates of the way on behind a signal, so many.
abbrev pub steps : List Onward → ℕ → ℕ → List ℕ
steps onward zero s = []
steps onward (suc n) s = (onward_at onward s).next ∷ steps onward n (onward_at onward s).next

-- The way on behind a signal.
abbrev pub way_behind : List Onward → ℕ → List ℕ
way_behind onward s = steps onward (behind onward s) s

-- The signal is a gate that begins a chain as long as the period.
pub record BeginsLongest (c : Plain) (onward : List Onward) (period s : ℕ) : Type 0 where
  pub gate : IsGate c.drives s
  pub long : suc (behind onward s) ≡ period

-- The slack of a gate by the gates up to it and behind it.
abbrev pub slack_of : Plain → List Onward → ℕ → ℕ → ℕ
slack_of c onward period g = period - rank c g - behind onward g
