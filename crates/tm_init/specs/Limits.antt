-- The limit that this crate owns, as a number.
use Rattle.std.specs.Prelude.{ℕ}

-- The most first steps that are kept, one for each bit of a byte.
abbrev pub most_steps : ℕ
most_steps = 8
