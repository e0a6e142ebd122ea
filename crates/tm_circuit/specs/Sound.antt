-- What a circuit must be: few signals, in range, lawfully and distinctly named, without a circle of gates.
use Rattle.std.specs.Prelude.{◌≡◌, ◌≢◌, ℕ, ◌+◌, ◌<◌, ◌≤◌, true, List, [], ◌∷◌, ◌++◌, length, Option, Some, None, slice_get, All, AllPairs, IfSome, IsSome, codes}
use Rattle.tm_bits.specs.Rows.{HasWidth}
use Rattle.tm_circuit.specs.declared.parts.Clock.{Clock}
use Rattle.tm_circuit.specs.Plain.{Drive, input, latch, gate, Plain, input_count, latch_count, gate_count}
use Rattle.tm_circuit.specs.Chain.{IsRanked, rank}

-- There are at most 900,000 signals.
abbrev pub IsFew : Plain → Type 0
IsFew c = length c.drives ≤ 900000

-- A drive reads signals below `n` alone.
abbrev pub ReadsBelow : ℕ → Drive → Type 0
ReadsBelow n input = Unit {0}
ReadsBelow n (latch next init) = next < n
ReadsBelow n (gate pins cover) = All (λ p. p < n) pins

-- A gate has at most 255 pins, and a place for each of them in each row.
abbrev pub FitsPins : Drive → Type 0
FitsPins input = Unit {0}
FitsPins (latch next init) = Unit {0}
FitsPins (gate pins cover) = (length pins ≤ 255) × HasWidth cover (length pins)

-- A clock stands among the inputs or at their end, has an edge only where there is a latch, and is declared where it has none.
pub record IsClockOf (inputs latches : ℕ) (clock : Clock) : Type 0 where
  pub place : IfSome clock.place (λ before. before ≤ inputs)
  pub edge : IsSome clock.edge → 0 < latches
  pub declared : clock.edge ≡ None → clock.declared ≡ true

-- Pins, nexts and outputs are signals, gates fit their pins, and the clock fits the circuit.
pub record IsInRange (c : Plain) : Type 0 where
  pub reads : All (ReadsBelow (length c.drives)) c.drives
  pub pins : All FitsPins c.drives
  pub outputs : All (λ s. s < length c.drives) c.outputs
  pub clock : IfSome c.clock (IsClockOf (input_count c.drives) (latch_count c.drives))

-- A byte of a name: a visible ASCII character that is no `#` and no `\`.
abbrev pub IsNameByte : ℕ → Type 0
IsNameByte b = (33 ≤ b) × (b ≤ 126) × (b ≢ 35) × (b ≢ 92)

-- A name has 1 to 1,023 bytes, each lawful.
pub record IsName (bytes : List ℕ) : Type 0 where
  pub some : 0 < length bytes
  pub short : length bytes ≤ 1023
  pub lawful : All IsNameByte bytes

-- A clock is lawfully named, and not `NIL` where it has an edge.
pub record IsClockName (clock : Clock) : Type 0 where
  pub lawful : IsName clock.name
  pub not_nil : IsSome clock.edge → clock.name ≢ codes "NIL"

-- All names are lawful.
pub record IsWellNamed (c : Plain) : Type 0 where
  pub model : IsName c.model
  pub signals : All IsName c.names
  pub clock : IfSome c.clock IsClockName

-- The clock's name, where there is a clock.
abbrev pub clock_name : Option Clock → List (List ℕ)
clock_name None = []
clock_name (Some clock) = clock.name ∷ []

-- No two of the signals and the clock have the same name.
abbrev pub IsDistinctlyNamed : Plain → Type 0
IsDistinctlyNamed c = AllPairs (λ a b. a ≢ b) (c.names ++ clock_name c.clock)

-- No signal stands twice in the outputs.
abbrev pub HasDistinctOutputs : Plain → Type 0
HasDistinctOutputs c = AllPairs (λ a b. a ≢ b) c.outputs

-- The kind of a signal goes by its number: the inputs come first, then the latches, then the gates.
abbrev pub IsPlaced : ℕ → ℕ → ℕ → Drive → Type 0
IsPlaced inputs latches s input = s < inputs
IsPlaced inputs latches s (latch next init) = (inputs ≤ s) × (s < inputs + latches)
IsPlaced inputs latches s (gate pins cover) = inputs + latches ≤ s

-- What every built circuit is.
pub record IsSound (c : Plain) : Type 0 where
  pub few : IsFew c
  pub named : length c.names ≡ length c.drives
  pub placed : (s : ℕ) (d : Drive) → slice_get c.drives s ≡ Some d → IsPlaced (input_count c.drives) (latch_count c.drives) s d
  pub range : IsInRange c
  pub names : IsWellNamed c
  pub distinct : IsDistinctlyNamed c
  pub outputs : HasDistinctOutputs c
  pub ranked : IsRanked c.drives (rank c)
  pub bounded : (s : ℕ) → rank c s ≤ gate_count c.drives
