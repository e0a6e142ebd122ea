-- What gathering equal latches into classes keeps true: each class goes by its head, the member that was met first.
use Rattle.std.specs.Prelude.{◌≡◌, ℕ, ◌<◌, ◌≤◌, ◌⊎◌, Bool, true, false, List, [], ◌∷◌, length, reverse, Option, Some, None, slice_index_or, Contains}
use Rattle.tm_circuit.specs.Plain.{Drive, latch, drive_in}
use Rattle.tm_twins.specs.declared.classes.Classes.{Classes}
use Rattle.tm_twins.specs.declared.classes.Firsts.{Firsts}
use Rattle.tm_twins.specs.Twins.{IsWord, AreEqual}

-- The signal is a latch with a source that is an input or a gate.
abbrev pub IsFed : List Drive → ℕ → Type 0
IsFed drives s = (init : Bool) × ((word : List Bool) × ((source : ℕ) × IsWord drives s (init ∷ word) source))

-- A signal is known; past the end each is.
abbrev pub known_at : List Bool → ℕ → Bool
known_at known s = slice_index_or known s true

-- The head of a signal's class; past the end a signal is its own.
abbrev pub head_in : List ℕ → ℕ → ℕ
head_in heads s = slice_index_or heads s s

-- The first latch with an initial value.
abbrev pub first_of : Firsts → Bool → Option ℕ
first_of f true = f.on
first_of f false = f.off

-- The same with this first latch with an initial value.
abbrev pub with_first : Firsts → Bool → ℕ → Firsts
with_first f true q = record { off = f.off; on = Some q }
with_first f false q = record { off = Some q; on = f.on }

-- No first latches.
abbrev pub no_firsts : Firsts
no_firsts = record { off = None; on = None }

-- The first latch whose next is of the class with this head, and which has this initial value.
abbrev pub first_at : List Firsts → ℕ → Bool → Option ℕ
first_at firsts head init = first_of (slice_index_or firsts head no_firsts) init

-- A signal is no latch that could be equal to another, and is the head of its own class.
pub record IsAlone (drives : List Drive) (heads : List ℕ) (s : ℕ) : Type 0 where
  pub head : head_in heads s ≡ s
  pub unfed : ¬ IsFed drives s

-- A latch stands in the class that goes by the class of its next and by its initial value.
pub record IsPlaced (drives : List Drive) (known : List Bool) (heads : List ℕ) (firsts : List Firsts) (s : ℕ) : Type 0 where
  pub next : ℕ
  pub init : Bool
  pub word : List Bool
  pub source : ℕ
  pub drive : drive_in drives s ≡ latch next init
  pub rest : IsWord drives next word source
  pub next_known : known_at known next ≡ true
  pub found : first_at firsts (head_in heads next) init ≡ Some (head_in heads s)

-- A first latch has a next of the class that it is the first for, and the initial value.
pub record IsFirst (drives : List Drive) (known : List Bool) (heads : List ℕ) (head : ℕ) (init : Bool) (first : ℕ) : Type 0 where
  pub within : first < length drives
  pub next : ℕ
  pub drive : drive_in drives first ≡ latch next init
  pub next_known : known_at known next ≡ true
  pub next_head : head_in heads next ≡ head

-- The state of the classes as far as they are known.
pub record AreClasses (drives : List Drive) (known : List Bool) (heads : List ℕ) (firsts : List Firsts) : Type 0 where
  pub known_sized : length known ≡ length drives
  pub heads_sized : length heads ≡ length drives
  pub firsts_sized : length firsts ≡ length drives
  pub within : (s : ℕ) → s < length drives → head_in heads s < length drives
  pub unknown : (s : ℕ) → known_at known s ≡ false → IsFed drives s
  pub settled : (s : ℕ) → known_at known s ≡ true → IsAlone drives heads s ⊎ IsPlaced drives known heads firsts s
  pub entries : (head : ℕ) (init : Bool) (first : ℕ) → first_at firsts head init ≡ Some first → IsFirst drives known heads head init first

abbrev pub Gathers : List Drive → Classes → Type 0
Gathers drives c = AreClasses drives c.known.items c.heads.items c.firsts.items

-- A signal of some classes is known.
abbrev pub IsKnown : Classes → ℕ → Type 0
IsKnown c s = known_at c.known.items s ≡ true

-- A latch takes a signal that has a word.
abbrev pub Leads : List Drive → ℕ → ℕ → Type 0
Leads drives s to =
    (init : Bool) × ((word : List Bool) × ((source : ℕ) × (drive_in drives s ≡ latch to init) × IsWord drives to word source))

-- A list of latches, the newest first, each the next of the one after it; the newest takes a given signal.
abbrev pub IsTrail : List Drive → ℕ → List ℕ → Type 0
IsTrail drives to [] = Unit {0}
IsTrail drives to (s ∷ trail) = Leads drives s to × IsTrail drives s trail

-- A path, the oldest first, leads to a signal that is known.
abbrev pub LeadsHome : List Drive → Classes → List ℕ → Type 0
LeadsHome drives c path = (to : ℕ) × IsKnown c to × IsTrail drives to (reverse path)

-- What is known stays known, and some signals are known.
pub record Learns (old new : Classes) (signals : List ℕ) : Type 0 where
  pub stay : (s : ℕ) → IsKnown old s → IsKnown new s
  pub all : (s : ℕ) → Contains signals s → IsKnown new s

-- Signals have the same head exactly where they are equal latches, or one.
pub record AreHeads (drives : List Drive) (heads : List ℕ) : Type 0 where
  pub sized : length heads ≡ length drives
  pub within : (s : ℕ) → s < length drives → head_in heads s < length drives
  pub joins : (s r : ℕ) → AreEqual drives s r → head_in heads s ≡ head_in heads r
  pub apart : (s r : ℕ) → head_in heads s ≡ head_in heads r → (s ≡ r) ⊎ AreEqual drives s r

-- The first signal of a class.
pub record IsLeast (heads : List ℕ) (s t : ℕ) : Type 0 where
  pub same : head_in heads t ≡ head_in heads s
  pub least : (r : ℕ) → head_in heads r ≡ head_in heads s → t ≤ r

-- For each of the first signals, the first signal of its class.
pub record AreLeast (heads : List ℕ) (leasts : List ℕ) (upto : ℕ) : Type 0 where
  pub sized : length leasts ≡ upto
  pub each : (s : ℕ) → s < upto → IsLeast heads s (head_in leasts s)
