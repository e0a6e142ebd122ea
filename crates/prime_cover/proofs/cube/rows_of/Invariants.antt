use Rattle.std.proofs.Common.{◌≡◌, ℕ, ◌^◌, ltb, ◌&&◌, take}
use Rattle.tm_bits.specs.Rows.{row_agrees}
use Rattle.tm_bits.specs.Tables.{bit_of, bits_of}
use Rattle.prime_cover.proofs.cube.rows_of.Given as goal

-- the rows that the places so far agree with
abbrev pub invariant-loop-index : goal.invariant-loop-index
invariant-loop-index l =
    (row : ℕ) → bit_of l.rows row ≡ (ltb row (2 ^ l.inputs) && row_agrees (take l.index l.places) (bits_of l.inputs row))
