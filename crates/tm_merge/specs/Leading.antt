-- The gates that lead to an output, as marks.
use Rattle.std.specs.Prelude.{◌≡◌, ℕ, Bool, true, false, List, ◌++◌, length, Contains, slice_index_or}
use Rattle.tm_circuit.specs.Plain.{Plain, drive, pins_of}
use Rattle.tm_circuit.specs.Source.{IsSource}
use Rattle.tm_circuit.specs.declared.sources.Source.TheVariants.{Gate}
use Rattle.tm_unroll.proofs.ListLemmas.{AreApart}
use Rattle.tm_merge.specs.declared.outputs.Marking.{Marking}

-- Whether a signal is marked; none is past the end.
abbrev pub is_marked : List Bool → ℕ → Bool
is_marked marks s = slice_index_or marks s false

-- The source gate of each output is marked, and of each pin of a gate that is marked.
pub record AreMarked (c : Plain) (marks : List Bool) : Type 0 where
  pub sized : length marks ≡ length c.drives
  pub outputs : (o g : ℕ) → Contains c.outputs o → IsSource c.drives o (Gate g) → is_marked marks g ≡ true
  pub pins : (g p h : ℕ) → is_marked marks g ≡ true → Contains (pins_of (drive c g)) p → IsSource c.drives p (Gate h) → is_marked marks h ≡ true

-- The source of a signal is marked, where it is a gate.
abbrev pub HasMarkedSource : Plain → Marking → ℕ → Type 0
HasMarkedSource c m s = (g : ℕ) → IsSource c.drives s (Gate g) → is_marked m.marks.items g ≡ true

-- The signals that are marked are those that were found, each once.
pub record IsMarking (m : Marking) : Type 0 where
  pub once : AreApart m.found.items
  pub marked : (s : ℕ) → Contains m.found.items s → is_marked m.marks.items s ≡ true
  pub all : (s : ℕ) → is_marked m.marks.items s ≡ true → Contains m.found.items s

-- More is marked: what was stays so, and new finds come last.
pub record MarksMore (old new : Marking) : Type 0 where
  pub marking : IsMarking new
  pub sized : length new.marks.items ≡ length old.marks.items
  pub stay : (s : ℕ) → is_marked old.marks.items s ≡ true → is_marked new.marks.items s ≡ true
  pub finds : (rest : List ℕ) × (new.found.items ≡ old.found.items ++ rest)

-- A signal is marked.
pub record Marks (s : ℕ) (old new : Marking) : Type 0 where
  pub more : MarksMore old new
  pub here : is_marked new.marks.items s ≡ true

-- The sources of some signals are marked, where they are gates.
pub record MarksSources (c : Plain) (signals : List ℕ) (old new : Marking) : Type 0 where
  pub more : MarksMore old new
  pub sources : (s : ℕ) → Contains signals s → HasMarkedSource c new s
