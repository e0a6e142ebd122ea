-- The greatest numbers that the text of a certificate can have.
use Rattle.std.specs.Prelude.{ℕ}

-- the period, the number of tables, a signal and an arrival
abbrev pub most_number : ℕ
most_number = 4294967295

-- the number of drops
abbrev pub most_drops : ℕ
most_drops = 18446744073709551615

-- a lag and an advance
abbrev pub most_steps : ℕ
most_steps = 255
