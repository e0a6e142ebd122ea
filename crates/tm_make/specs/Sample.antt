-- The sample text of a number, as lines of words.
use Rattle.std.specs.Prelude.{ℕ, zero, suc, ◌+◌, ◌-◌, ◌*◌, ◌/◌, ◌%◌, nat_lt, List, [], ◌∷◌, ◌++◌, map, flat_map, codes, if◌then◌else◌}
use Rattle.std.specs.Fmt.{decimal}
use Rattle.std.specs.List.{range_with_len}
use Rattle.blif_write.specs.Text.{lines_text}

-- The numbers that the sample is made of: the given one comes first, and each other one comes of the one before it.
abbrev pub number_at : ℕ → ℕ → ℕ
number_at n zero = n
number_at n (suc i) = (75 * number_at n i + 74) % 65537

-- Names: of 8 inputs, of a quarter as many latches as gates, of the gates.
abbrev pub input_name : ℕ → List ℕ
input_name i = codes "i" ++ decimal i

abbrev pub latch_name : ℕ → List ℕ
latch_name j = codes "l" ++ decimal j

abbrev pub gate_name : ℕ → List ℕ
gate_name j = codes "g" ++ decimal j

abbrev pub latches_of : ℕ → ℕ
latches_of n = n / 4

-- The choices of a pin in order: the inputs, the latches, and the gates that come before.
abbrev pub choice_name : ℕ → ℕ → List ℕ
choice_name latches choice =
    if nat_lt choice 8 then input_name choice
    else if nat_lt choice (8 + latches) then latch_name (choice - 8)
    else gate_name (choice - (8 + latches))

-- Each gate takes three numbers: one for each pin, and one for its kind.
abbrev pub first_choice : ℕ → ℕ → ℕ
first_choice n j = number_at n (3 * j + 1) % (8 + latches_of n + j)

abbrev pub second_choice : ℕ → ℕ → ℕ
second_choice n j = number_at n (3 * j + 2) % (8 + latches_of n + j)

abbrev pub kind : ℕ → ℕ → ℕ
kind n j = number_at n (3 * j + 3) % 3

-- The lines of the rows of a kind: both pins, one of them, just one of them.
abbrev pub kind_lines : ℕ → List (List (List ℕ))
kind_lines zero = (codes "11" ∷ codes "1" ∷ []) ∷ []
kind_lines (suc zero) = (codes "1-" ∷ codes "1" ∷ []) ∷ (codes "-1" ∷ codes "1" ∷ []) ∷ []
kind_lines (suc (suc more)) = (codes "10" ∷ codes "1" ∷ []) ∷ (codes "01" ∷ codes "1" ∷ []) ∷ []

-- The line of a latch, and the lines of a gate.
abbrev pub latch_line : ℕ → List (List ℕ)
latch_line j = codes ".latch" ∷ gate_name (4 * j + 3) ∷ latch_name j ∷ decimal (j % 2) ∷ []

abbrev pub gate_lines : ℕ → ℕ → List (List (List ℕ))
gate_lines n j =
    (codes ".names" ∷ choice_name (latches_of n) (first_choice n j) ∷ choice_name (latches_of n) (second_choice n j) ∷ gate_name j ∷ [])
    ∷ kind_lines (kind n j)

-- The lines of the sample. The outputs are the last 8 gates.
abbrev pub sample_lines : ℕ → List (List (List ℕ))
sample_lines n =
    (codes ".model" ∷ codes "sample" ∷ [])
    ∷ (codes ".inputs" ∷ map input_name (range_with_len 0 8))
    ∷ (codes ".outputs" ∷ map gate_name (range_with_len (n - 8) 8))
    ∷ map latch_line (range_with_len 0 (latches_of n))
    ++ flat_map (gate_lines n) (range_with_len 0 n)
    ++ (codes ".end" ∷ []) ∷ []

-- The sample text: a blank between two words, and an LF after each line.
unfoldable pub sample_text : ℕ → List ℕ
sample_text n = lines_text (sample_lines n)
