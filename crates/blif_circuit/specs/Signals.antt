-- Steps from the statements of a model to its circuit.
use Rattle.std.specs.Prelude.{◌≡◌, ℕ, true, not, if◌then◌else◌, List, [], ◌∷◌, ◌++◌, Option, filter, bytes_eq}
use Rattle.std.specs.List.{list_any, list_all}
use Rattle.tm_circuit.specs.declared.parts.LatchPart.{LatchPart}
use Rattle.tm_circuit.specs.declared.parts.GatePart.{GatePart}
use Rattle.tm_circuit.specs.Plain.{Plain}
use Rattle.tm_circuit.specs.Plain as plain
use Rattle.tm_circuit.specs.Sound.{IsFew, IsInRange, IsWellNamed, IsDistinctlyNamed, HasDistinctOutputs}
use Rattle.blif_circuit.specs.Circuit.{is_named, Reading, reading}

-- the names with one more at the end, where it is new
abbrev pub put : List (List ℕ) → List ℕ → List (List ℕ)
put seen n = if list_any (bytes_eq n) seen then seen else seen ++ n ∷ []

-- the names with others put in turn
abbrev pub put_all : List (List ℕ) → List (List ℕ) → List (List ℕ)
put_all seen [] = seen
put_all seen (n ∷ ns) = put_all (put seen n) ns

-- the names without the clock's
abbrev pub unclocked : Option (List ℕ) → List (List ℕ) → List (List ℕ)
unclocked clock names = filter (λ n. not (is_named clock n)) names

-- Each name is one of the signals' names.
pub record AreKnown (signals names : List (List ℕ)) : Type 0 where
  pub each : list_all (λ n. list_any (bytes_eq n) signals) names ≡ true

-- the names of parts
abbrev pub latch_name : LatchPart → List ℕ
latch_name l = l.name

abbrev pub gate_name : GatePart → List ℕ
gate_name g = g.name

-- the drives of parts, in names
abbrev pub latch_reading : List (List ℕ) → LatchPart → Reading
latch_reading names l = reading names (plain.latch l.next l.init)

abbrev pub gate_reading : List (List ℕ) → GatePart → Reading
gate_reading names g = reading names (plain.gate g.pins.items g.cover)

-- A circuit that is sound unless gates read one another in a circle.
pub record IsLaid (c : Plain) : Type 0 where
  pub few : IsFew c
  pub range : IsInRange c
  pub names : IsWellNamed c
  pub distinct : IsDistinctlyNamed c
  pub outputs : HasDistinctOutputs c
