-- The joined circuit, and what it keeps.
use Rattle.std.specs.Prelude.{◌≡◌, ℕ, ◌<◌, ◌↔◌, Bool, List, [], ◌∷◌, map, length, Contains}
use Rattle.tm_circuit.specs.declared.sources.Source.{Source}
use Rattle.tm_circuit.specs.Plain.{Plain, Drive, input, latch, gate, drive, input_count, latch_count, gate_count, widest}
use Rattle.tm_circuit.specs.Source.{IsSource}
use Rattle.tm_circuit.specs.Trace.{IsTrace}
use Rattle.tm_twins.specs.Twins.{AreTwins, IsTwin}

-- A drive that reads the twin of each signal in its place.
abbrev pub joined_drive : (ℕ → ℕ) → Drive → Drive
joined_drive twin input = input
joined_drive twin (latch next init) = latch (twin next) init
joined_drive twin (gate pins cover) = gate (map twin pins) cover

-- The joined circuit of a circuit: each pin and each next is replaced by its twin, and all else is the same.
pub record IsJoined (c joined : Plain) : Type 0 where
  pub model : joined.model ≡ c.model
  pub clock : joined.clock ≡ c.clock
  pub names : joined.names ≡ c.names
  pub outputs : joined.outputs ≡ c.outputs
  pub drives : (twin : ℕ → ℕ) × AreTwins c.drives twin × (joined.drives ≡ map (joined_drive twin) c.drives)

-- In all traces of the two circuits for the same rows each signal has the same bit at each step that has a row.
abbrev pub HasSameBits : Plain → Plain → Type 0
HasSameBits c d =
    (rows : List (List Bool)) (t u : ℕ → ℕ → Bool) → IsTrace c rows t → IsTrace d rows u → (s step : ℕ)
    → step < length rows → t s step ≡ u s step

-- The two circuits have as many signals of each kind, and gates that are as wide.
pub record IsAsLarge (c d : Plain) : Type 0 where
  pub signals : length d.drives ≡ length c.drives
  pub inputs : input_count d.drives ≡ input_count c.drives
  pub latches : latch_count d.drives ≡ latch_count c.drives
  pub gates : gate_count d.drives ≡ gate_count c.drives
  pub widest : widest d.drives ≡ widest c.drives

-- Each signal has the same source in both circuits.
abbrev pub HasSameSources : Plain → Plain → Type 0
HasSameSources c d = (s : ℕ) (source : Source) → IsSource c.drives s source ↔ IsSource d.drives s source

-- Each signal has the same twin in both circuits.
abbrev pub HasSameTwins : Plain → Plain → Type 0
HasSameTwins c d = (s twin : ℕ) → IsTwin c.drives s twin ↔ IsTwin d.drives s twin

-- The signals that a drive reads: the next of a latch, the pins of a gate.
abbrev pub reads_of : Drive → List ℕ
reads_of input = []
reads_of (latch next init) = next ∷ []
reads_of (gate pins cover) = pins

-- Each pin and each next of the circuit is its own twin.
abbrev pub HasOwnTwins : Plain → Type 0
HasOwnTwins c = (s p : ℕ) → Contains (reads_of (drive c s)) p → IsTwin c.drives p p
