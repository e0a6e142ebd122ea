-- The subject circuit: each gate with more than K pins is replaced by gates of at most two pins.
use Rattle.std.specs.Prelude.{ℕ, suc, ◌+◌, ◌-◌, Bool, true, List, [], ◌∷◌, ◌++◌, map, length, take, slice_index_or, sum_by, nat_lt, if◌then◌else◌}
use Rattle.tm_circuit.specs.Plain.{Plain, Drive, input, latch, gate}
use Rattle.tm_split.specs.declared.piece.Wire.{Wire}
use Rattle.tm_split.specs.declared.piece.Wire.TheVariants.{Pin, Made}
use Rattle.tm_split.specs.declared.piece.Piece.{Piece}
use Rattle.tm_split.specs.Pieces.{is_empty, pieces_of, wires_of, rows_of}
use Rattle.tm_parts.specs.Runs.{joiner_of}
use Rattle.tm_split.specs.Names.{tilde, piece_names}

-- ---- numbers of signals

-- How many new gates stand before a signal in its place: none but where it is a gate with more than K pins.
abbrev pub extra : ℕ → Drive → ℕ
extra k input = 0
extra k (latch next init) = 0
extra k (gate pins cover) = if nat_lt k (length pins) then length (pieces_of pins cover) - 1 else 0

-- The number of the first gate in the place of a signal.
abbrev pub first_number : ℕ → List Drive → ℕ → ℕ
first_number k drives s = s + sum_by (extra k) (take s drives)

-- The number of a signal itself, after the new gates before it and in its place.
abbrev pub number : ℕ → List Drive → ℕ → ℕ
number k drives s = s + sum_by (extra k) (take (suc s) drives)

-- ---- gates

-- The number of a wire of a gate that is split, by the numbers of the old signals and that of its first new gate.
abbrev pub wire_number : (ℕ → ℕ) → ℕ → Wire → ℕ
wire_number number first (Pin s) = number s
wire_number number first (Made n) = first + n

-- The gate that a piece is, with an on or an off cover.
abbrev pub piece_drive : Bool → (ℕ → ℕ) → ℕ → Piece → Drive
piece_drive on number first piece = gate (map (wire_number number first) (wires_of piece)) (record { on = on; rows = rows_of piece })

-- The gates that some pieces are. Their covers are on covers, but the last has the polarity of the gate that is split.
abbrev pub gates_of : Bool → (ℕ → ℕ) → ℕ → List Piece → List Drive
gates_of on number first [] = []
gates_of on number first (piece ∷ rest) =
    piece_drive (if is_empty rest then on else true) number first piece ∷ gates_of on number first rest

-- What stands in the place of a drive. An off cover has a row, so a gate without rows keeps an on cover.
abbrev pub drives_for : ℕ → (ℕ → ℕ) → ℕ → Drive → List Drive
drives_for k number first input = input ∷ []
drives_for k number first (latch next init) = latch (number next) init ∷ []
drives_for k number first (gate pins cover) =
    if nat_lt k (length pins) then gates_of cover.on number first (pieces_of pins cover)
    else gate (map number pins) cover ∷ []

-- The names of the signals in the place of a drive.
abbrev pub names_for : ℕ → List ℕ → List ℕ → Drive → List (List ℕ)
names_for k name joiner input = name ∷ []
names_for k name joiner (latch next init) = name ∷ []
names_for k name joiner (gate pins cover) =
    if nat_lt k (length pins) then piece_names name joiner 1 (pieces_of pins cover) else name ∷ []

-- ---- the circuit

-- What stands in the places of some drives, one after another, by the number of each, from `s`, and the drive.
abbrev pub in_places : {X : Type 0} → (ℕ → Drive → List X) → ℕ → List Drive → List X
in_places at s [] = []
in_places at s (d ∷ rest) = at s d ++ in_places at (suc s) rest

-- The names of the signals in the place of a signal.
abbrev pub names_at : ℕ → Plain → ℕ → Drive → List (List ℕ)
names_at k c s d = names_for k (slice_index_or c.names s []) (joiner_of tilde c) d

-- The drives of the signals in the place of a signal.
abbrev pub drives_at : ℕ → Plain → ℕ → Drive → List Drive
drives_at k c s d = drives_for k (number k c.drives) (first_number k c.drives s) d

-- The subject circuit of a circuit for K.
unfoldable pub subject_of : ℕ → Plain → Plain
subject_of k c = record {
  model = c.model;
  clock = c.clock;
  names = in_places (names_at k c) 0 c.drives;
  drives = in_places (drives_at k c) 0 c.drives;
  outputs = map (number k c.drives) c.outputs;
}
