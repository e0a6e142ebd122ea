-- Paths back from a signal to an input, and the latches on them.
use Rattle.std.specs.Prelude.{ℕ, ◌≤◌, List, [], ◌∷◌, count_by, Contains, IsTrue}
use Rattle.tm_circuit.specs.Plain.{Drive, input, latch, gate, drive_in, is_input, is_latch}
use Rattle.tm_unroll.specs.Mappings.{Table}

-- The signals that a drive asks for, in this step or in the one before: the pins of a gate, and the `next` of a latch.
abbrev pub made_of : Drive → List ℕ
made_of input = []
made_of (latch next init) = next ∷ []
made_of (gate pins cover) = pins

-- A path back from a signal to an input, as the list of its signals after the first.
abbrev pub IsPathBack : List Drive → ℕ → List ℕ → Type 0
IsPathBack drives s [] = IsTrue (is_input (drive_in drives s))
IsPathBack drives s (p ∷ path) = Contains (made_of (drive_in drives s)) p × IsPathBack drives p path

-- The number of latches among some signals.
abbrev pub latches_on : List Drive → List ℕ → ℕ
latches_on drives path = count_by (λ p. is_latch (drive_in drives p)) path

-- The lag of each table is at most the number of latches on each path back from its gate to an input.
abbrev pub LagsArePaid : List Drive → List Table → Type 0
LagsArePaid drives tables =
    (t : Table) (path : List ℕ) → Contains tables t → IsPathBack drives t.gate path → t.lag ≤ latches_on drives path
