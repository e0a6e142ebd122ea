-- The names of new gates.
use Rattle.std.specs.Prelude.{ℕ, suc, List, [], ◌∷◌, ◌++◌, if◌then◌else◌}
use Rattle.std.specs.Fmt.{decimal}
use Rattle.tm_split.specs.declared.piece.Piece.{Piece}
use Rattle.tm_split.specs.Pieces.{is_empty}

-- The byte `~`. A joiner is a run of it that is one longer than the longest in any name.
abbrev pub tilde : ℕ
tilde = 126

-- The names of the gates in the place of a gate, numbered from `n`; the last has the name of the gate itself.
abbrev pub piece_names : List ℕ → List ℕ → ℕ → List Piece → List (List ℕ)
piece_names name joiner n [] = []
piece_names name joiner n (piece ∷ rest) =
    (if is_empty rest then name else name ++ joiner ++ decimal n) ∷ piece_names name joiner (suc n) rest
