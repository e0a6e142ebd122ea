-- The limit that this crate owns, as a number.
use Rattle.std.specs.Prelude.{ℕ}

-- The most inputs that a table can have, and so the greatest K, the most leaves of a table and the most pins of a gate
-- that is mapped.
abbrev pub most_inputs : ℕ
most_inputs = 8
