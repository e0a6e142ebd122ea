-- What a cube, a row of a cover beside the set of rows of the table that it agrees with, keeps.
use Rattle.std.specs.Prelude.{◌≡◌, ℕ, ◌+◌, ◌*◌, ◌^◌, ◌&&◌, nat_lt, List, [], ◌∷◌}
use Rattle.tm_bits.specs.declared.cover.Place.{Place}
use Rattle.tm_bits.specs.Rows.{row_agrees}
use Rattle.tm_bits.specs.Tables.{bit_of, bits_of}
use Rattle.prime_cover.specs.Primes.{place_rank}

-- A set has just the rows of so many inputs whose bits some places agree with.
abbrev pub IsSpanOf : ℕ → List Place → List ℕ → Type 0
IsSpanOf inputs places rows = (row : ℕ) → bit_of rows row ≡ (nat_lt row (2 ^ inputs) && row_agrees places (bits_of inputs row))

-- A number that orders rows of one length: its digits to the base 3, after those before it, are the ranks of the places.
abbrev pub order_from : ℕ → List Place → ℕ
order_from before [] = before
order_from before (place ∷ places) = order_from (3 * before + place_rank place) places
