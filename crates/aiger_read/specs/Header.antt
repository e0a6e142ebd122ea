-- The first line of a text: how many variables, inputs, latches, outputs and ands there are.
use Rattle.std.specs.Prelude.{ℕ, ◌+◌, Bool, not, ◌||◌, ◌==◌, nat_lt, if◌then◌else◌, List, [], length, drop, slice_index, slice_index_or, codes, bytes_eq, Option, None, Some}
use Rattle.std.specs.List.{list_any}
use Rattle.aiger_read.specs.declared.fault.AigerKind.{AigerKind}
use Rattle.aiger_read.specs.declared.fault.AigerKind.TheVariants.{BadHeader, LeftOut}
use Rattle.aiger_read.specs.declared.header.Header.{Header}
use Rattle.aiger_read.specs.Limits.{most_variables}
use Rattle.aiger_read.specs.Lines.{line_at, words_in, numbers_in}

-- The numbers behind the word `aag`; none where the line does not begin with it or has another word that is no number.
unfoldable pub header_numbers : List ℕ → List ℕ
header_numbers line =
    if bytes_eq (slice_index_or (words_in line) 0 []) (codes "aag") then numbers_in (drop 1 (words_in line)) else []

-- The counts that five numbers tell.
abbrev pub header_in : List ℕ → Header
header_in numbers = record {
  variables = slice_index numbers 0;
  inputs = slice_index numbers 1;
  latches = slice_index numbers 2;
  outputs = slice_index numbers 3;
  ands = slice_index numbers 4;
}

-- Whether there are too many variables, or too few for what they stand for.
abbrev pub has_bad_variables : Header → Bool
has_bad_variables h = nat_lt most_variables h.variables || nat_lt h.variables (h.inputs + h.latches + h.ands)

-- Whether a section is asked for that is left out here.
abbrev pub asks_more : List ℕ → Bool
asks_more numbers = list_any (λ n. not (n == 0)) (drop 5 numbers)

-- The fault of the first line, by its numbers.
unfoldable pub fault_in_header : List ℕ → Option AigerKind
fault_in_header numbers =
    if nat_lt (length numbers) 5 || nat_lt 9 (length numbers) || has_bad_variables (header_in numbers) then Some BadHeader
    else if asks_more numbers then Some LeftOut else None

-- The counts of a text by its lines.
unfoldable pub header_of : List (List ℕ) → Header
header_of lines = header_in (header_numbers (line_at lines 0))

-- How many lines are counted.
abbrev pub counted : Header → ℕ
counted h = h.inputs + h.latches + h.outputs + h.ands
