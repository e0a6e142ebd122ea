-- Cover of rows: what the rows of a gate mean.
use Rattle.std.specs.Prelude.{◌≡◌, ◌≢◌, ℕ, Bool, true, false, List, [], length, All, AllPairs, zip, not, if◌then◌else◌}
use Rattle.std.specs.List.{list_any, list_all}
use Rattle.tm_bits.specs.declared.cover.Place.{Place}
use Rattle.tm_bits.specs.declared.cover.Place.TheVariants.{Zero, One, Any}

-- The rows of a cover, and whether they tell where it is 1 (`on`) or where it is 0.
pub record Rows : Type 0 where
  pub on : Bool
  pub rows : List (List Place)

-- A place agrees with a bit where it is `Any` or equals the bit.
abbrev pub agrees_at : Place → Bool → Bool
agrees_at Zero bit = not bit
agrees_at One bit = bit
agrees_at Any bit = true

-- A row agrees with a list of bits where each of its places agrees with its bit.
abbrev pub row_agrees : List Place → List Bool → Bool
row_agrees places bits = list_all (λ x. agrees_at x.0 x.1) (zip places bits)

-- An on cover holds where some row agrees, an off cover where none does.
abbrev pub holds : Rows → List Bool → Bool
holds cover bits = let agrees = list_any (λ row. row_agrees row bits) cover.rows in if cover.on then agrees else not agrees

-- Each row has so many places.
abbrev pub HasWidth : Rows → ℕ → Type 0
HasWidth cover width = All (λ row. length row ≡ width) cover.rows

-- No two rows differ in length.
abbrev pub AreEven : List (List Place) → Type 0
AreEven rows = AllPairs (λ one other. length one ≡ length other) rows

-- What a cover must have: rows of one length, and a row where it is an off cover.
pub record IsEven (cover : Rows) : Type 0 where
  pub lengths : AreEven cover.rows
  pub off_has_row : cover.on ≡ false → cover.rows ≢ []
