-- The limits of the commands, as numbers.
use Rattle.std.specs.Prelude.{ℕ}
use Rattle.blif_read.specs.declared.Limits.{Limits}

-- the most bytes of a text that is to be mapped
abbrev pub source_bytes : ℕ
source_bytes = 16777216

-- the most bytes of a text that is taken for a mapped one, as the circuit of `sim` and `show`
abbrev pub mapped_bytes : ℕ
mapped_bytes = 268435456

-- the most bytes of a text of vectors
abbrev pub vector_bytes : ℕ
vector_bytes = 16777216

-- the most bytes of the output rows of a simulation
abbrev pub output_bytes : ℕ
output_bytes = 268435456

-- the greatest D: so many registers at most are moved over a gate
abbrev pub most_lag : ℕ
most_lag = 8

-- the greatest B: so many registers at most are moved backward over a gate, where a bound lets them
abbrev pub most_back : ℕ
most_back = 8

-- the numbers of samples
abbrev pub least_sample : ℕ
least_sample = 8

abbrev pub most_sample : ℕ
most_sample = 20000

-- what a text that is to be mapped may have
abbrev pub source_limits : Limits
source_limits = record { signals = 100000; name = 255 }

-- what a text may have that is taken for a mapped one
abbrev pub mapped_limits : Limits
mapped_limits = record { signals = 900000; name = 1023 }
