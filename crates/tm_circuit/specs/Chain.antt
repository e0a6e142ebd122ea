-- Chains of gates: circles, the depth of a signal, the period and an order of the gates.
use Rattle.std.specs.Prelude.{◌≡◌, ◌≢◌, ◌↔◌, ℕ, zero, suc, ◌≤◌, ◌<◌, List, [], ◌∷◌, ◌++◌, map, length, take, Some, slice_get, Contains, AllPairs, IsTrue}
use Rattle.tm_circuit.specs.Plain.{Drive, input, latch, gate, Plain, drive_in, is_gate, pins_of, greatest}

-- The signal is a gate.
abbrev pub IsGate : List Drive → ℕ → Type 0
IsGate drives s = IsTrue (is_gate (drive_in drives s))

-- The signal `a` is a pin of the gate `b`.
abbrev pub IsPin : List Drive → ℕ → ℕ → Type 0
IsPin drives a b = Contains (pins_of (drive_in drives b)) a

-- The signal is a pin of the first of a list, where there is one.
abbrev pub IsPinOfFirst : List Drive → ℕ → List ℕ → Type 0
IsPinOfFirst drives a [] = Unit {0}
IsPinOfFirst drives a (b ∷ rest) = IsPin drives a b

-- A list of gates in which each is a pin of the next.
abbrev pub IsChain : List Drive → List ℕ → Type 0
IsChain drives [] = Unit {0}
IsChain drives (a ∷ rest) = IsGate drives a × IsPinOfFirst drives a rest × IsChain drives rest

-- Gates read one another in a circle, with no latch in it: a chain leads from a gate back to itself.
abbrev pub HasCircle : List Drive → Type 0
HasCircle drives = (g : ℕ) × ((through : List ℕ) × IsChain drives (g ∷ (through ++ g ∷ [])))

-- The period of a circuit: the greatest length of a list of gates in which each is a pin of the next.
pub record IsPeriod (c : Plain) (p : ℕ) : Type 0 where
  pub reached : (chain : List ℕ) × IsChain c.drives chain × (length chain ≡ p)
  pub greatest : (chain : List ℕ) → IsChain c.drives chain → length chain ≤ p

-- The depth of a drive by the depths of its pins: a gate is one deeper than its deepest pin, all else has depth 0.
abbrev pub depth_by : (ℕ → ℕ) → Drive → ℕ
depth_by depth input = 0
depth_by depth (latch next init) = 0
depth_by depth (gate pins cover) = suc (greatest (map depth pins))

-- The depth of a signal, where no chain of gates is followed further back than so many.
abbrev pub depth_within : ℕ → List Drive → ℕ → ℕ
depth_within zero drives s = 0
depth_within (suc n) drives s = depth_by (λ p. depth_within n drives p) (drive_in drives s)

-- The depth of a signal: the number of gates on the longest chain that ends in it.
unfoldable pub depth : List Drive → ℕ → ℕ
depth drives s = depth_within (length drives) drives s

-- The rank of a signal of a circuit is its depth.
abbrev pub rank : Plain → ℕ → ℕ
rank c s = depth c.drives s

-- A number for each signal that is 0 but at gates, and greater at a gate than at each of its pins.
abbrev pub RisesTo : (ℕ → ℕ) → ℕ → Drive → Type 0
RisesTo rank s input = rank s ≡ 0
RisesTo rank s (latch next init) = rank s ≡ 0
RisesTo rank s (gate pins cover) = (p : ℕ) → Contains pins p → rank p < rank s

-- Ranks that rise from each pin of a gate to the gate, so that no gates read one another in a circle.
pub record IsRanked (drives : List Drive) (rank : ℕ → ℕ) : Type 0 where
  pub rises : (s : ℕ) → RisesTo rank s (drive_in drives s)

-- An order of the gates: each stands in it once, after the gates among its pins.
pub record IsOrder (drives : List Drive) (order : List ℕ) : Type 0 where
  pub gates : (s : ℕ) → Contains order s ↔ IsGate drives s
  pub once : AllPairs (λ a b. a ≢ b) order
  pub after : (k s p : ℕ) → slice_get order k ≡ Some s → IsPin drives p s → IsGate drives p → Contains (take k order) p
