-- Tables: the value of a function on each row of its inputs.
use Rattle.std.specs.Prelude.{◌≡◌, ℕ, zero, suc, ◌+◌, ◌/◌, ◌%◌, ◌^◌, ◌<◌, ◌≤◌, ◌==◌, Bool, true, false, List, [], ◌∷◌, length, map, filter, slice_index, if◌then◌else◌}
use Rattle.std.specs.Int.{bit_at}
use Rattle.std.specs.List.{range_with_len}
use Rattle.tm_bits.specs.declared.cover.Place.{Place}
use Rattle.tm_bits.specs.declared.cover.Place.TheVariants.{Zero, One}

-- The value on a row is bit `row mod 64` of word `row / 64`.
abbrev pub bit_of : List ℕ → ℕ → Bool
bit_of words row = bit_at (slice_index words (row / 64)) (row % 64) == 1

-- The rows of so many inputs are those below 2 ^ inputs. The bits past them are 0.
abbrev pub IsClear : ℕ → List ℕ → Type 0
IsClear inputs words = (row : ℕ) → 2 ^ inputs ≤ row → bit_of words row ≡ false

-- The bits that a row gives to its inputs: the first has the most significant bit of the row's number.
abbrev pub bits_of : ℕ → ℕ → List Bool
bits_of zero row = []
bits_of (suc inputs) row = (bit_at row inputs == 1) ∷ bits_of inputs row

-- The number of the row that gives these bits.
abbrev pub row_number : List Bool → ℕ
row_number [] = 0
row_number (bit ∷ bits) = (if bit then 2 ^ length bits else 0) + row_number bits

-- The words have on each row the value of the function of bits.
abbrev pub IsTableOf : (List Bool → Bool) → ℕ → List ℕ → Type 0
IsTableOf function inputs words = (row : ℕ) → row < 2 ^ inputs → bit_of words row ≡ function (bits_of inputs row)

-- The same, said at the bits: the value at some bits is that on the row that they name.
abbrev pub AreValuesAt : (List Bool → Bool) → ℕ → List ℕ → Type 0
AreValuesAt function inputs words = (bits : List Bool) → length bits ≡ inputs → function bits ≡ bit_of words (row_number bits)

-- The place that asks for just this bit.
abbrev pub place_of : Bool → Place
place_of true = One
place_of false = Zero

-- The row of a cover that agrees with just the bits of one row of a table.
abbrev pub minterm : ℕ → ℕ → List Place
minterm inputs row = map place_of (bits_of inputs row)

-- A row without `Any` for each row of value 1, in ascending order of row numbers.
abbrev pub minterms : ℕ → List ℕ → List (List Place)
minterms inputs words = map (minterm inputs) (filter (bit_of words) (range_with_len 0 (2 ^ inputs)))
