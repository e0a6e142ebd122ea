-- The longest run in more names.
use Rattle.std.proofs.Common.{◌≡◌, ℕ, ◌+◌, ◌<◌, max, List, [], ◌∷◌, ◌++◌, map, flat_map, length, take, get_or, refl, sym, ◌∙◌, ap, arith}
use Rattle.std.proofs.lemmas.List.{map-append, take_more}
use Rattle.std.proofs.lemmas.List.Concat.{flat_map-append}
use Rattle.std.proofs.lemmas.List.{append-nil}
use Rattle.tm_circuit.specs.Plain.{greatest}
use Rattle.tm_parts.specs.Runs.{longest_run}
use Rattle.blif_flat.specs.Run.{run_in}

greatest-append : (xs ys : List ℕ) → greatest (xs ++ ys) ≡ max (greatest xs) (greatest ys)
greatest-append [] ys = omega arith
greatest-append (x ∷ xs) ys = let rest = greatest-append xs ys in omega arith

pub run-append : (xs ys : List (List ℕ)) → run_in (xs ++ ys) ≡ max (run_in xs) (run_in ys)
run-append xs ys = ap greatest (map-append (longest_run 64) xs ys) ∙ greatest-append (map (longest_run 64) xs) (map (longest_run 64) ys)

pub run-one : (name : List ℕ) → run_in (name ∷ []) ≡ longest_run 64 name
run-one name = omega arith

pub run-cons : (name : List ℕ) (names : List (List ℕ)) → run_in (name ∷ names) ≡ max (longest_run 64 name) (run_in names)
run-cons name names = refl

-- one name more
pub run_more : (names : List (List ℕ)) (i : ℕ) (name : List ℕ) → i < length names → name ≡ get_or names i name → run_in (take (i + 1) names) ≡ max (run_in (take i names)) (longest_run 64 name)
run_more names i name within is =
    ap run_in (take_more names i name within ∙ ap (λ n. take i names ++ n ∷ []) (sym is)) ∙ run-append (take i names) (name ∷ []) ∙ ap (max (run_in (take i names))) (run-one name)

-- one part more
pub run_part : {X : Type 0} (f : X → List (List ℕ)) (xs : List X) (i : ℕ) (x : X) → i < length xs → x ≡ get_or xs i x
    → run_in (flat_map f (take (i + 1) xs)) ≡ max (run_in (flat_map f (take i xs))) (run_in (f x))
run_part f xs i x within is =
    ap (λ ys. run_in (flat_map f ys)) (take_more xs i x within ∙ ap (λ n. take i xs ++ n ∷ []) (sym is))
    ∙ ap run_in (flat_map-append f (take i xs) (x ∷ []) ∙ ap (λ ys. flat_map f (take i xs) ++ ys) (append-nil (f x)))
    ∙ run-append (flat_map f (take i xs)) (f x)
