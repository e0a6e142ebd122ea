-- The words of a line, and the forms of words: numbers, leaves and walks, each with the value that it spells.
--     blank 32, `.` 46, `0` 48
use Rattle.std.specs.Prelude.{ℕ, ◌-◌, Bool, not, ◌&&◌, ◌==◌, nat_lt, nat_le, List, map, length, slice_index, slice_index_or, drop, [], ◌+◌}
use Rattle.std.specs.List.{list_all, slice_split, before_first, after_first}
use Rattle.std.specs.Str.{all_ascii_digits}
use Rattle.std.specs.Str.Parse.{digits_value}
use Rattle.std.specs.Int.{is_in_range}
use Rattle.tm_bits.specs.Limits.{most_inputs}
use Rattle.tm_unroll.specs.declared.node.Node.{Node}
use Rattle.tm_unroll.specs.Mappings.{Table}
use Rattle.tm_unroll.specs.Nodes.{node_at}
use Rattle.tm_replay.specs.Replays.{Drop}
use Rattle.cert_text.specs.Limits.{most_number, most_steps}

-- The words of a line are what blanks part. Where a blank stands at an end of the line, or next to another one, a word is empty.
abbrev pub words_in : List ℕ → List (List ℕ)
words_in line = slice_split (λ b. b == 32) line

-- The word with an index, from 0.
abbrev pub word_at : List (List ℕ) → ℕ → List ℕ
word_at words i = slice_index_or words i []

-- The number that digits spell.
abbrev pub number_in : List ℕ → ℕ
number_in word = digits_value 10 word

-- Whether a word begins with a zero that other digits follow.
abbrev pub has_leading_zero : List ℕ → Bool
has_leading_zero word = (slice_index word 0 == 48) && nat_lt 1 (length word)

-- Whether a word is a number up to a bound: decimal digits alone, one or more, and no leading zero.
unfoldable pub is_number : ℕ → List ℕ → Bool
is_number most word = nat_lt 0 (length word) && all_ascii_digits word && not (has_leading_zero word) && nat_le (number_in word) most

-- A leaf is a signal, a dot and an advance, parted at the first dot.
abbrev pub is_dot : ℕ → Bool
is_dot b = b == 46

unfoldable pub is_leaf : List ℕ → Bool
is_leaf word = is_number most_number (before_first is_dot word) && is_number most_steps (after_first is_dot word)

abbrev pub leaf_in : List ℕ → Node
leaf_in word = node_at (number_in (after_first is_dot word)) (number_in (before_first is_dot word))

-- A walk is a run of digits, one for each index of a pin.
abbrev pub is_index : ℕ → Bool
is_index b = is_in_range 48 (47 + most_inputs) b

unfoldable pub is_walk : List ℕ → Bool
is_walk word = list_all is_index word

abbrev pub walk_in : List ℕ → List ℕ
walk_in word = map (λ b. b - 48) word

-- The number, the table and the drop that a line spells, by its words.
abbrev pub number_on : List ℕ → ℕ
number_on line = number_in (word_at (words_in line) 1)

abbrev pub table_in : List (List ℕ) → Table
table_in words = record { gate = number_in (word_at words 1); lag = number_in (word_at words 2); leaves = map leaf_in (drop 3 words) }

abbrev pub table_on : List ℕ → Table
table_on line = table_in (words_in line)

abbrev pub drop_in : List (List ℕ) → Drop
drop_in words = record {
  gate = number_in (word_at words 1);
  lag = number_in (word_at words 2);
  arrival = number_in (word_at words 3);
  walks = map walk_in (drop 4 words);
}

abbrev pub drop_on : List ℕ → Drop
drop_on line = drop_in (words_in line)
