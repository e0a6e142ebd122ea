-- No name in models has so long a run of `@` as the joiner has.
use Rattle.std.proofs.Common.{◌≡◌, ℕ, ◌≤◌, max, Bool, true, false, cond, List, [], ◌∷◌, Option, None, Some, map, subst, arith, bytes_eq}
use Rattle.std.specs.List.{AllByRecursion}
use Rattle.tm_circuit.specs.Plain.{greatest}
use Rattle.tm_parts.specs.Runs.{longest_run}
use Rattle.blif_circuit.proofs.SignalUses.{all-left, all-right, all-weaker}
use Rattle.blif_unit.specs.Fit.{names_told}
use Rattle.blif_unit.specs.Unit.{Model, over}
use Rattle.blif_flat.specs.Places.{model_named}
use Rattle.blif_flat.specs.Flat.{names_in}

-- the longest run of `@` in any name of the models
abbrev pub most_run : List Model → ℕ
most_run models = greatest (map (longest_run 64) (names_in models))

-- The runs of `@` in a name are at most so long.
abbrev pub IsShortRun : ℕ → List ℕ → Type 0
IsShortRun runs n = longest_run 64 n ≤ runs

-- The runs in the names of a model's statements are at most so long.
abbrev pub HasShortRuns : ℕ → Model → Type 0
HasShortRuns runs m = AllByRecursion (IsShortRun runs) (over names_told m.body)

within_greatest : (names : List (List ℕ)) → AllByRecursion (IsShortRun (greatest (map (longest_run 64) names))) names
within_greatest [] = tt
within_greatest (n ∷ names) = (
  omega arith,
  all-weaker (IsShortRun (greatest (map (longest_run 64) names))) (IsShortRun (max (longest_run 64 n) (greatest (map (longest_run 64) names)))) names
      (λ m short. omega arith) (within_greatest names),
)

each_short : (runs : ℕ) (models : List Model) → AllByRecursion (IsShortRun runs) (names_in models) → AllByRecursion (HasShortRuns runs) models
each_short runs [] all = tt
each_short runs (m ∷ models) all = (
  (all-left (IsShortRun runs) (m.name ∷ over names_told m.body) (names_in models) all).1,
  each_short runs models (all-right (IsShortRun runs) (m.name ∷ over names_told m.body) (names_in models) all),
)

pub all_short : (models : List Model) → AllByRecursion (HasShortRuns (most_run models)) models
all_short models = each_short (most_run models) models (within_greatest (names_in models))

-- What holds of each model holds of one that is found by name.
pub found_has : (P : Model → Type 0) (models : List Model) (name : List ℕ) (m : Model) → AllByRecursion P models → model_named models name ≡ Some m → P m
found_has P [] name m all found = let e : ◌≡◌ {A = Option Model} None (Some m) = found in cc
found_has P (x ∷ models) name m all found = by_test (bytes_eq name x.name) found (found_has P models name m all.1)
  where
    by_test : (t : Bool) → cond t (Some x) (model_named models name) ≡ Some m → (model_named models name ≡ Some m → P m) → P m
    by_test true e later = let same : x ≡ m = cc in subst P same all.0
    by_test false e later = later e
