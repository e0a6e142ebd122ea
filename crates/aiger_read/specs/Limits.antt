-- The greatest numbers of an AIGER text.
use Rattle.std.specs.Prelude.{ℕ}

-- any number
abbrev pub most_number : ℕ
most_number = 4294967295

-- the number of variables
abbrev pub most_variables : ℕ
most_variables = 2147483646

-- a run of `%` in a symbol's name that is used
abbrev pub longest_run_used : ℕ
longest_run_used = 16

-- A made name: a letter, a joiner that is one longer than such a run, and a number of ten digits.
abbrev pub longest_made_name : ℕ
longest_made_name = 28
