-- How the subject circuit is made: pieces, and the parts of the circuit as they grow.
use Rattle.std.specs.Prelude.{ℕ, suc, ◌-◌, ◌<◌, Bool, true, IsTrue, List, [], ◌∷◌, slice_index}
use Rattle.tm_circuit.specs.declared.parts.Parts.{Parts}
use Rattle.tm_circuit.specs.Plain.{Drive, input, latch, gate}
use Rattle.tm_parts.specs.Parts.{Gains, GainsGates}
use Rattle.tm_split.specs.declared.piece.Wire.{Wire}
use Rattle.tm_split.specs.declared.piece.Wire.TheVariants.{Pin, Made}
use Rattle.tm_split.specs.declared.piece.Literal.{Literal}
use Rattle.tm_split.specs.declared.piece.Piece.{Piece}
use Rattle.tm_split.specs.declared.pieces.Join.{Join}
use Rattle.tm_split.specs.declared.piece.Piece.TheVariants.{NoRow, BareRow, Alone, Both, Either}
use Rattle.tm_split.specs.declared.pieces.Join.TheVariants.{Both as ByBoth, Either as ByEither}
use Rattle.tm_split.specs.Limits.{most_subject_signals}
use Rattle.tm_split.specs.Subject.{extra, drives_for, names_for}

-- Two literals joined.
abbrev pub piece_by : Join → Literal → Literal → Piece
piece_by ByBoth a b = Both a b
piece_by ByEither a b = Either a b

-- A wire is a signal of some kind, or one of the first new gates, so many.
abbrev pub IsWireBy : (ℕ → Type 0) → ℕ → Wire → Type 0
IsWireBy P gates (Pin s) = P s
IsWireBy P gates (Made n) = n < gates

-- A piece reads such wires; only where it is `free` to it has no row.
abbrev pub IsWiredBy : Bool → (ℕ → Type 0) → ℕ → Piece → Type 0
IsWiredBy free P gates NoRow = IsTrue free
IsWiredBy free P gates BareRow = Unit {0}
IsWiredBy free P gates (Alone a) = IsWireBy P gates a.wire
IsWiredBy free P gates (Both a b) = IsWireBy P gates a.wire × IsWireBy P gates b.wire
IsWiredBy free P gates (Either a b) = IsWireBy P gates a.wire × IsWireBy P gates b.wire

-- Each piece, from the one numbered `n`, reads such signals and pieces before itself.
abbrev pub AreWiredBy : Bool → (ℕ → Type 0) → ℕ → List Piece → Type 0
AreWiredBy free P n [] = Unit {0}
AreWiredBy free P n (piece ∷ rest) = IsWiredBy free P n piece × AreWiredBy free P (suc n) rest

-- The same for the signals below a bound.
abbrev pub IsWireOf : ℕ → ℕ → Wire → Type 0
IsWireOf signals gates wire = IsWireBy (λ s. s < signals) gates wire

abbrev pub IsWired : Bool → ℕ → ℕ → Piece → Type 0
IsWired free signals gates piece = IsWiredBy free (λ s. s < signals) gates piece

abbrev pub AreWired : Bool → ℕ → ℕ → List Piece → Type 0
AreWired free signals n pieces = AreWiredBy free (λ s. s < signals) n pieces

-- A piece reads signals below a bound and gates of a number below the most signals of a subject circuit.
abbrev pub IsReadOf : ℕ → Piece → Type 0
IsReadOf signals piece = IsWired true signals most_subject_signals piece

-- The parts have gained what stands in the place of a signal of this name and drive, at the end of its kind. The numbers are
-- those of all signals, and `own` is that of this one.
abbrev pub GainsPlace : ℕ → List ℕ → List ℕ → ℕ → Parts → Parts → List ℕ → Drive → Type 0
GainsPlace k numbers joiner own old new name input = Gains old new name input
GainsPlace k numbers joiner own old new name (latch next init) = Gains old new name (latch (slice_index numbers next) init)
GainsPlace k numbers joiner own old new name (gate pins cover) =
    GainsGates old new (names_for k name joiner (gate pins cover))
    (drives_for k (slice_index numbers) (own - extra k (gate pins cover)) (gate pins cover))
