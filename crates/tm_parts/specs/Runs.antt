-- Runs of a byte in a text.
use Rattle.std.specs.Prelude.{◌≡◌, ℕ, suc, ◌≤◌, ◌==◌, List, [], ◌∷◌, ◌++◌, map, length, max, replicate, All, if◌then◌else◌}
use Rattle.tm_circuit.specs.Plain.{Plain, greatest}
use Rattle.tm_parts.specs.Names.{all_names}

-- No run of the byte in the text is longer than so many: wherever bytes stand side by side in the text and each of them is
-- the byte, there are at most so many of them.
abbrev pub HasRunsWithin : ℕ → ℕ → List ℕ → Type 0
HasRunsWithin byte most text =
    (before run after : List ℕ) → text ≡ before ++ (run ++ after) → All (λ b. b ≡ byte) run → length run ≤ most

-- How many times the byte stands at the front.
abbrev pub leading_run : ℕ → List ℕ → ℕ
leading_run byte [] = 0
leading_run byte (b ∷ rest) = if b == byte then suc (leading_run byte rest) else 0

-- The length of the longest run of the byte.
abbrev pub longest_run : ℕ → List ℕ → ℕ
longest_run byte [] = 0
longest_run byte (b ∷ rest) = max (leading_run byte (b ∷ rest)) (longest_run byte rest)

-- The joiner of a circuit: a run of the byte that is one longer than the longest in any name of a signal or of the clock.
abbrev pub joiner_of : ℕ → Plain → List ℕ
joiner_of byte c = replicate (suc (greatest (map (longest_run byte) (all_names c)))) byte
