-- What a wide gate is split into: its rows as lists of literals, reduced by rounds of pairing.
use Rattle.std.specs.Prelude.{ℕ, zero, suc, Bool, true, false, List, [], ◌∷◌, ◌++◌, map, length, zip, Option, Some, None, if◌then◌else◌}
use Rattle.std.specs.List.{list_any, filter_map}
use Rattle.tm_bits.specs.declared.cover.Place.{Place}
use Rattle.tm_bits.specs.declared.cover.Place.TheVariants.{Zero, One, Any}
use Rattle.tm_bits.specs.Rows.{Rows}
use Rattle.tm_bits.specs.Tables.{place_of}
use Rattle.tm_split.specs.declared.piece.Wire.{Wire}
use Rattle.tm_split.specs.declared.piece.Wire.TheVariants.{Pin, Made}
use Rattle.tm_split.specs.declared.piece.Literal.{Literal}
use Rattle.tm_split.specs.declared.piece.Piece.{Piece}
use Rattle.tm_split.specs.declared.piece.Piece.TheVariants.{NoRow, BareRow, Alone, Both, Either}

-- ---- literals

-- A wire with a polarity.
abbrev pub literal : Wire → Bool → Literal
literal wire positive = record { wire = wire; positive = positive }

-- The literal of a pin at a place: of polarity 1 for a `1`, of polarity 0 for a `0`; a `-` gives none.
abbrev pub literal_at : ℕ → Place → Option Literal
literal_at pin Zero = Some (literal (Pin pin) false)
literal_at pin One = Some (literal (Pin pin) true)
literal_at pin Any = None

-- The literals of a row, in the order of its places.
abbrev pub literals_of : List ℕ → List Place → List Literal
literals_of pins places = filter_map (λ x. literal_at x.0 x.1) (zip pins places)

-- A new gate as a literal, by its number from 0 among the new gates of the gate that is split.
abbrev pub made : ℕ → Literal
made n = literal (Made n) true

-- ---- rounds

-- The new gates so far, in the order in which they are made, and the literals that are left.
pub record Reduction : Type 0 where
  pub pieces : List Piece
  pub left : List Literal

abbrev pub reduction : List Piece → List Literal → Reduction
reduction pieces left = record { pieces = pieces; left = left }

-- The new gates of one round: of the first and the second literal, of the third and the fourth, and so on.
abbrev pub joined : (Literal → Literal → Piece) → List Literal → List Piece
joined join [] = []
joined join (a ∷ []) = []
joined join (a ∷ b ∷ rest) = join a b ∷ joined join rest

-- The literals after one round, where the first gate of the round has the number `n`: each new gate in the place of its
-- two literals; a last literal without a partner stays as it is.
abbrev pub left_after : ℕ → List Literal → List Literal
left_after n [] = []
left_after n (a ∷ []) = a ∷ []
left_after n (a ∷ b ∷ rest) = made n ∷ left_after (suc n) rest

abbrev pub round : (Literal → Literal → Piece) → Reduction → Reduction
round join r = reduction (r.pieces ++ joined join r.left) (left_after (length r.pieces) r.left)

abbrev pub rounds : (Literal → Literal → Piece) → ℕ → Reduction → Reduction
rounds join zero r = r
rounds join (suc more) r = rounds join more (round join r)

-- Rounds until one literal is left. As many rounds as there are literals are enough, and a round of one literal changes
-- nothing.
abbrev pub reduced : (Literal → Literal → Piece) → Reduction → Reduction
reduced join r = rounds join (length r.left) r

-- Each row, in order, reduced to one literal; the literals of the rows are left.
abbrev pub reduced_rows : List Piece → List (List Literal) → Reduction
reduced_rows pieces [] = reduction pieces []
reduced_rows pieces (row ∷ rows) =
    let one = reduced Both (reduction pieces row) in
    let others = reduced_rows one.pieces rows in
    reduction others.pieces (one.left ++ others.left)

-- ---- the whole gate

abbrev pub is_empty : {X : Type 0} → List X → Bool
is_empty [] = true
is_empty (x ∷ xs) = false

-- The new gates; where none was made, one gate of the one literal that is left.
abbrev pub pieces_or_left : Reduction → List Piece
pieces_or_left r = if is_empty r.pieces then map Alone r.left else r.pieces

-- What a gate with these rows of literals is split into, in the order made. The last stands for the gate itself.
abbrev pub pieces_of_rows : List (List Literal) → List Piece
pieces_of_rows rows =
    if is_empty rows then NoRow ∷ []
    else if list_any is_empty rows then BareRow ∷ []
    else pieces_or_left (reduced Either (reduced_rows [] rows))

abbrev pub pieces_of : List ℕ → Rows → List Piece
pieces_of pins cover = pieces_of_rows (map (literals_of pins) cover.rows)

-- ---- the gate that a piece is, but for its name and the polarity of its cover

-- Its pins.
abbrev pub wires_of : Piece → List Wire
wires_of NoRow = []
wires_of BareRow = []
wires_of (Alone a) = a.wire ∷ []
wires_of (Both a b) = a.wire ∷ b.wire ∷ []
wires_of (Either a b) = a.wire ∷ b.wire ∷ []

-- Its rows: none; one without places; `p`; `p q`; and `p -` with `- q`.
abbrev pub rows_of : Piece → List (List Place)
rows_of NoRow = []
rows_of BareRow = [] ∷ []
rows_of (Alone a) = (place_of a.positive ∷ []) ∷ []
rows_of (Both a b) = (place_of a.positive ∷ place_of b.positive ∷ []) ∷ []
rows_of (Either a b) = (place_of a.positive ∷ Any ∷ []) ∷ (Any ∷ place_of b.positive ∷ []) ∷ []
