-- Rows of bits of one width.
use Rattle.std.specs.Prelude.{ℕ, ◌+◌, ◌*◌, Bool, List, map, slice_range}
use Rattle.std.specs.List.{range_with_len}

-- Rows, and the width that each of them has.
pub record Grid : Type 0 where
  pub width : ℕ
  pub rows : List (List Bool)

-- So many rows from their bits in one list: row number `i` has the bits from place `i` times the width on.
abbrev pub rows_at : ℕ → ℕ → List Bool → List (List Bool)
rows_at width steps bits = map (λ i. slice_range bits (i * width) (i * width + width)) (range_with_len 0 steps)
