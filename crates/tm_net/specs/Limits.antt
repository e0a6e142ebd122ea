-- The limit of a mapped circuit, as a number.
use Rattle.std.specs.Prelude.{ℕ}

-- The most bytes of a name: one of 517 bytes, a joiner of up to 256, and an advance of one digit.
abbrev pub longest_mapped_name : ℕ
longest_mapped_name = 774
