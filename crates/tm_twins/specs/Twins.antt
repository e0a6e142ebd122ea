-- Equal latches and their twins.
use Rattle.std.specs.Prelude.{◌≡◌, ℕ, ◌≤◌, ◌⊎◌, Bool, false, List, [], ◌∷◌, slice_index_or}
use Rattle.tm_circuit.specs.Plain.{Drive, latch, drive_in, is_latch}

-- The initial word of a signal, and its source: the initial values of the latches that following each to its next
-- meets, in order, up to the first signal that is no latch. An input and a gate have the empty word and are their own
-- source. A latch in a ring, or one that leads into a ring, has no word.
abbrev pub IsWord : List Drive → ℕ → List Bool → ℕ → Type 0
IsWord drives s [] source = (s ≡ source) × (is_latch (drive_in drives s) ≡ false)
IsWord drives s (init ∷ word) source =
    (next : ℕ) × (drive_in drives s ≡ latch next init) × IsWord drives next word source

-- The signal has a source that is an input or a gate, and so a word.
abbrev pub HasWord : List Drive → ℕ → Type 0
HasWord drives s = (word : List Bool) × ((source : ℕ) × IsWord drives s word source)

-- Two signals have the same source, an input or a gate, and the same initial word. Where they are two, they are latches.
abbrev pub AreEqual : List Drive → ℕ → ℕ → Type 0
AreEqual drives q r = (word : List Bool) × ((source : ℕ) × IsWord drives q word source × IsWord drives r word source)

-- The twin of a signal: the least that has its source and its initial word. A signal without a word is its own twin, and
-- so are inputs and gates, which are equal to none but themselves.
pub record IsTwin (drives : List Drive) (s twin : ℕ) : Type 0 where
  pub equal : (twin ≡ s) ⊎ AreEqual drives s twin
  pub least : (r : ℕ) → AreEqual drives s r → twin ≤ r

-- A function gives each signal its twin.
abbrev pub AreTwins : List Drive → (ℕ → ℕ) → Type 0
AreTwins drives twin = (s : ℕ) → IsTwin drives s (twin s)

-- The twin that a list has for a signal; past the end a signal is its own.
abbrev pub twin_in : List ℕ → ℕ → ℕ
twin_in twins s = slice_index_or twins s s
