-- The limits on what a text with several models asks for.
use Rattle.std.specs.Prelude.{ℕ}

-- The most numbers in the path of an instance.
abbrev pub most_levels : ℕ
most_levels = 64

-- The most that the instances, the bytes of all names and the places of all rows are in sum.
abbrev pub most_size : ℕ
most_size = 67108864
