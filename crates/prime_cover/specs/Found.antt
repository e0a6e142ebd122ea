-- What is known of the cubes that are found for a table.
use Rattle.std.specs.Prelude.{◌≡◌, ℕ, ◌<◌, Bool, true, List, take, AllPairs, Contains}
use Rattle.std.specs.List.{list_any}
use Rattle.tm_bits.specs.declared.cover.Place.{Place}
use Rattle.tm_bits.specs.Tables.{bit_of}
use Rattle.prime_cover.specs.declared.cube.Cube.{Cube}
use Rattle.prime_cover.specs.Primes.{IsPrime}

-- The row of a cover that a cube is.
abbrev pub row_of : Cube → List Place
row_of cube = take cube.inputs cube.places

-- Whether a cube has a row of the table.
abbrev pub has : ℕ → Cube → Bool
has row cube = bit_of cube.rows row

-- A cube lies within a table: the table has the value 1 at each row of the cube.
pub record LiesWithin (inputs : ℕ) (words : List ℕ) (cube : Cube) : Type 0 where
  pub width : cube.inputs ≡ inputs
  pub within : (row : ℕ) → has row cube ≡ true → bit_of words row ≡ true

-- A cube is a prime row of a table.
pub record IsPrimeCube (inputs : ℕ) (words : List ℕ) (cube : Cube) : Type 0 where
  pub lies : LiesWithin inputs words cube
  pub prime : IsPrime inputs words (row_of cube)

-- Some cube has each row of value 1.
abbrev pub HaveOnes : List ℕ → List Cube → Type 0
HaveOnes words cubes = (row : ℕ) → bit_of words row ≡ true → list_any (has row) cubes ≡ true

-- A cube has a row that no other one of the cubes has.
abbrev pub HasOwnRow : List Cube → Cube → Type 0
HasOwnRow cubes cube =
    (row : ℕ) × (has row cube ≡ true) × ((other : Cube) → Contains cubes other → has row other ≡ true → other ≡ cube)

-- The numbers of the cubes ascend.
abbrev pub Ascend : List Cube → Type 0
Ascend cubes = AllPairs (λ one other. one.order < other.order) cubes

-- The cubes are rows of one length.
abbrev pub HaveOneWidth : List Cube → Type 0
HaveOneWidth cubes = (one other : Cube) → Contains cubes one → Contains cubes other → one.inputs ≡ other.inputs
