-- Names of files.
use Rattle.std.specs.Prelude.{ℕ, Bool, true, not, ◌&&◌, ◌==◌, List, [], ◌∷◌, Option, None, Some, length, bytes_eq}
use Rattle.std.specs.List.{list_any}

-- the name is not empty and none of the others
abbrev pub is_apart : List ℕ → List (List ℕ) → Bool
is_apart name others = not (length name == 0) && not (list_any (λ other. bytes_eq other name) others)

-- names of files are not empty and differ pairwise
abbrev pub are_names : List (List ℕ) → Bool
are_names [] = true
are_names (name ∷ others) = is_apart name others && are_names others

-- the files of `map`: IN, OUT and, where it is asked for, CERT
abbrev pub files_of : List ℕ → List ℕ → Option (List ℕ) → List (List ℕ)
files_of input output None = input ∷ output ∷ []
files_of input output (Some certificate) = input ∷ output ∷ certificate ∷ []
