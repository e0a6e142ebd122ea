-- How deep instances go and how many they are, by the numbers of models.
use Rattle.std.specs.Prelude.{◌≡◌, ℕ, zero, suc, ◌+◌, ◌≤◌, Bool, true, false, List, [], ◌∷◌, map, sum, min, nat_lt, slice_index}
use Rattle.std.specs.List.{list_any}
use Rattle.tm_circuit.specs.Plain.{greatest}
use Rattle.blif_flat.specs.Graph.{placed_in}

abbrev pub is_some_placed : List ℕ → Bool
is_some_placed [] = false
is_some_placed (m ∷ placed) = true

-- Some instance under a model has a path of more than so many numbers.
abbrev pub goes_deeper : ℕ → List (List ℕ) → ℕ → Bool
goes_deeper zero graph m = is_some_placed (placed_in graph m)
goes_deeper (suc n) graph m = list_any (goes_deeper n graph) (placed_in graph m)

-- The number of instances under a model with a path of at most so many numbers.
abbrev pub count_under : ℕ → List (List ℕ) → ℕ → ℕ
count_under zero graph m = 0
count_under (suc n) graph m = sum (map (λ p. suc (count_under n graph p)) (placed_in graph m))

-- The most numbers in a path under a model, where 65 stands for all that are more.
abbrev pub IsDepth : List (List ℕ) → ℕ → ℕ → Type 0
IsDepth graph m levels = (n : ℕ) → n ≤ 64 → goes_deeper n graph m ≡ nat_lt n levels

-- The number of instances under a model, where one more than the limit stands for all that are more.
abbrev pub IsCount : List (List ℕ) → ℕ → ℕ → Type 0
IsCount graph m count = (n : ℕ) → goes_deeper n graph m ≡ false → count ≡ min 67108865 (count_under n graph m)

-- the same by those of the models that it places
abbrev pub levels_by : List ℕ → List ℕ → ℕ
levels_by below placed = greatest (map (λ m. min (slice_index below m + 1) 65) placed)

abbrev pub instances_by : List ℕ → List ℕ → ℕ
instances_by below placed = min 67108865 (sum (map (λ m. slice_index below m + 1) placed))
