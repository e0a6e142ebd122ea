-- Prime covers: rows of which no place and no row can be let go.
use Rattle.std.specs.Prelude.{◌≡◌, ◌≢◌, ℕ, ◌<◌, Bool, true, false, List, length, take, All, AllPairs, Contains, slice_index_or, slice_set}
use Rattle.tm_bits.specs.declared.cover.Place.{Place}
use Rattle.tm_bits.specs.declared.cover.Place.TheVariants.{Zero, One, Any}
use Rattle.tm_bits.specs.Rows.{Rows, HasWidth, row_agrees, holds}
use Rattle.tm_bits.specs.Tables.{bit_of, row_number, AreValuesAt}

-- A row agrees with some bits at which a table has the value 0.
abbrev pub MeetsZero : ℕ → List ℕ → List Place → Type 0
MeetsZero inputs words row =
    (bits : List Bool) × (length bits ≡ inputs) × (row_agrees row bits ≡ true) × (bit_of words (row_number bits) ≡ false)

-- A row is prime: with any one of its places `Zero` or `One` made `Any` it would agree with bits at which the table has the value 0.
abbrev pub IsPrime : ℕ → List ℕ → List Place → Type 0
IsPrime inputs words row =
    (place : ℕ) → slice_index_or row place Any ≢ Any → MeetsZero inputs words (slice_set row place Any)

-- A row cannot be left out: it agrees with some bits with which no other row does.
abbrev pub IsNeeded : ℕ → List (List Place) → List Place → Type 0
IsNeeded inputs rows row =
    (bits : List Bool) × (length bits ≡ inputs) × (row_agrees row bits ≡ true)
    × ((other : List Place) → Contains rows other → row_agrees other bits ≡ true → other ≡ row)

-- The order of places: `Zero` before `One` before `Any`.
abbrev pub place_rank : Place → ℕ
place_rank Zero = 0
place_rank One = 1
place_rank Any = 2

-- One row comes before another: at the first place where they differ, its place is the earlier one.
abbrev pub ComesBefore : List Place → List Place → Type 0
ComesBefore row other =
    (place : ℕ) × (place < length row) × (take place row ≡ take place other)
    × (place_rank (slice_index_or row place Any) < place_rank (slice_index_or other place Any))

-- A prime cover of a table: an on cover with its values, of prime rows, none of which can be left out, in strictly ascending order.
pub record IsPrimeCover (inputs : ℕ) (words : List ℕ) (cover : Rows) : Type 0 where
  pub on : cover.on ≡ true
  pub width : HasWidth cover inputs
  pub values : AreValuesAt (holds cover) inputs words
  pub primes : All (IsPrime inputs words) cover.rows
  pub needed : All (IsNeeded inputs cover.rows) cover.rows
  pub ascending : AllPairs ComesBefore cover.rows

-- Which covers may stand for the words of a table with so many inputs, where they are made of prime rows.
abbrev pub ByPrimeRows : ℕ → List ℕ → Rows → Type 0
ByPrimeRows inputs words cover = IsPrimeCover inputs words cover
