-- The drives of the circuit: how many there are, and that they read signals and fit their pins.
use Rattle.std.proofs.Common.{◌≡◌, ℕ, suc, ◌+◌, ◌<◌, ◌≤◌, Bool, true, false, cond, ltb, eqb, not, List, [], ◌∷◌, ◌++◌, map, length, None, Some, refl, sym, ◌∙◌, ap, arith, length-append}
use Rattle.std.specs.Prelude.{unwrap_or}
use Rattle.std.specs.List.{AllByRecursion, position_or_len}
use Rattle.std.proofs.lemmas.Bool.{ltb-true}
use Rattle.std.proofs.lemmas.List.{length-map}
use Rattle.std.proofs.lemmas.List.Elements.{All-nil, All-cons, All-from_recursion}
use Rattle.tm_bits.specs.declared.cover.Place.{Place}
use Rattle.tm_circuit.specs.Plain.{Drive, input, latch, gate}
use Rattle.tm_circuit.specs.Sound.{ReadsBelow, FitsPins}
use Rattle.aiger_read.specs.declared.statement.LatchLine.{LatchLine}
use Rattle.aiger_read.specs.declared.statement.AndLine.{AndLine}
use Rattle.aiger_read.specs.Statements.{variable_of}
use Rattle.aiger_read.specs.Circuit.{Sections, variables_of, signal_in, place_for, asking, has_zero, gate_of, is_made, latch_drives, made_nexts, gate_drives}
use Rattle.aiger_read.specs.Making.{signal_count}

-- ---- counts

pub latches-count : (variables : List ℕ) (made : ℕ) (latches : List LatchLine) → length (latch_drives variables made latches) ≡ length latches
latches-count variables made [] = refl
latches-count variables made (l ∷ latches) = by_test (is_made l.next) (latches-count variables (suc made) latches) (latches-count variables made latches)
  where
    by_test : (is : Bool) → length (latch_drives variables (suc made) latches) ≡ length latches → length (latch_drives variables made latches) ≡ length latches
        → length (cond is (latch made l.reset ∷ latch_drives variables (suc made) latches) (latch (signal_in variables (variable_of l.next)) l.reset ∷ latch_drives variables made latches)) ≡ suc (length latches)
    by_test true one other = ap suc one
    by_test false one other = ap suc other

-- the drives of the circuit
abbrev pub drives_of : Sections → List Drive
drives_of s = map (λ _. input) s.inputs ++ latch_drives (variables_of s) (length (variables_of s)) s.latches ++ gate_drives (variables_of s) s

pub variables-count : (s : Sections) → length (variables_of s) ≡ length s.inputs + length s.latches + length s.ands
variables-count s =
    let a = length-append (map variable_of s.inputs ++ map (λ (l : LatchLine). variable_of l.literal) s.latches) (map (λ (a : AndLine). variable_of a.literal) s.ands) in
    let b = length-append (map variable_of s.inputs) (map (λ (l : LatchLine). variable_of l.literal) s.latches) in
    let i = length-map s.inputs variable_of in
    let l = length-map s.latches (λ (l : LatchLine). variable_of l.literal) in
    let n = length-map s.ands (λ (a : AndLine). variable_of a.literal) in
    omega (arith, a, b, i, l, n)

pub gates-count : (variables : List ℕ) (s : Sections) → length (gate_drives variables s) ≡ length s.ands + length (made_nexts s.latches) + length s.outputs
gates-count variables s =
    let ga : List Drive = map (λ (a : AndLine). gate_of variables (a.left ∷ a.right ∷ [])) s.ands in
    let gm : List Drive = map (λ next. gate_of variables (next ∷ [])) (made_nexts s.latches) in
    let go : List Drive = map (λ literal. gate_of variables (literal ∷ [])) s.outputs in
    let a = length-append (map (λ (a : AndLine). gate_of variables (a.left ∷ a.right ∷ [])) s.ands ++ map (λ next. gate_of variables (next ∷ [])) (made_nexts s.latches)) (map (λ literal. gate_of variables (literal ∷ [])) s.outputs) in
    let b = length-append (map (λ (a : AndLine). gate_of variables (a.left ∷ a.right ∷ [])) s.ands) (map (λ next. gate_of variables (next ∷ [])) (made_nexts s.latches)) in
    let x = length-map s.ands (λ (a : AndLine). gate_of variables (a.left ∷ a.right ∷ [])) in
    let y = length-map (made_nexts s.latches) (λ next. gate_of variables (next ∷ [])) in
    let z = length-map s.outputs (λ literal. gate_of variables (literal ∷ [])) in
    omega (arith, a, b, x, y, z)

pub drives-count : (s : Sections) → length (drives_of s) ≡ signal_count s
drives-count s =
    let vs : List ℕ = variables_of s in
    let a = length-append (map (λ (_ : ℕ). input) s.inputs ++ latch_drives (variables_of s) (length (variables_of s)) s.latches) (gate_drives (variables_of s) s) in
    let b = length-append (map (λ (_ : ℕ). input) s.inputs) (latch_drives (variables_of s) (length (variables_of s)) s.latches) in
    let i = length-map s.inputs (λ (_ : ℕ). input) in
    let l = latches-count (variables_of s) (length (variables_of s)) s.latches in
    let g = gates-count (variables_of s) s in
    let v = variables-count s in
    omega (arith, a, b, i, l, g, v)

-- ---- what drives read

-- A drive reads signals below a bound and fits its pins.
pub record IsFine (n : ℕ) (d : Drive) : Type 0 where
  pub reads : ReadsBelow n d
  pub pins : FitsPins d

pub below : (variables : List ℕ) (v n : ℕ) → 0 < n → length variables ≤ n → signal_in variables v < n
below variables v n some few = by_test (ltb (position_or_len (λ w. eqb v w) variables) (length variables)) refl
  where
    by_test : (b : Bool) → ltb (position_or_len (λ w. eqb v w) variables) (length variables) ≡ b
        → unwrap_or (cond b (Some (position_or_len (λ w. eqb v w) variables)) None) 0 < n
    by_test true e = let less : position_or_len (λ w. eqb v w) variables < length variables = ltb-true _ _ e in omega arith
    by_test false e = omega arith

pins_below : (variables literals : List ℕ) (n : ℕ) → 0 < n → length variables ≤ n → AllByRecursion (λ p. p < n) (map (λ literal. signal_in variables (variable_of literal)) literals)
pins_below variables [] n some few = tt
pins_below variables (literal ∷ literals) n some few = (below variables (variable_of literal) n some few, pins_below variables literals n some few)

asking_fewer : (literals : List ℕ) → length (asking literals) ≤ length literals
asking_fewer [] = omega arith
asking_fewer (literal ∷ literals) = by_test (not (eqb literal 1)) (asking_fewer literals)
  where
    by_test : (b : Bool) → length (asking literals) ≤ length literals → length (cond b (literal ∷ asking literals) (asking literals)) ≤ suc (length literals)
    by_test true ih = omega (arith, ih)
    by_test false ih = omega (arith, ih)

pub gate_fine : (variables literals : List ℕ) (n : ℕ) → 0 < n → length variables ≤ n → length literals ≤ 255 → IsFine n (gate_of variables literals)
gate_fine variables literals n some few short = by_test (has_zero literals)
  where
    pins : List ℕ
    pins = map (λ literal. signal_in variables (variable_of literal)) (asking literals)

    by_test : (b : Bool) → IsFine n (cond b (gate [] (record { on = true; rows = [] }))
        (gate (map (λ literal. signal_in variables (variable_of literal)) (asking literals)) (record { on = true; rows = map place_for (asking literals) ∷ [] })))
    by_test true = record { reads = All-nil (λ p. p < n); pins = (omega arith, All-nil (λ (row : List Place). length row ≡ 0)) }
    by_test false =
        let size = length-map (asking literals) (λ literal. signal_in variables (variable_of literal)) in
        let fewer = asking_fewer literals in
        let row = length-map (asking literals) place_for in
        record {
          reads = All-from_recursion (λ p. p < n) (map (λ literal. signal_in variables (variable_of literal)) (asking literals)) (pins_below variables (asking literals) n some few);
          pins = (
            omega (arith, size, fewer),
            All-cons (λ (r : List Place). length r ≡ length (map (λ literal. signal_in variables (variable_of literal)) (asking literals))) (map place_for (asking literals)) [] (row ∙ sym size)
                (All-nil (λ (r : List Place). length r ≡ length (map (λ literal. signal_in variables (variable_of literal)) (asking literals)))),
          );
        }

latches_fine : (variables : List ℕ) (made n : ℕ) (latches : List LatchLine) → (0 < length latches → 0 < n) → length variables ≤ n → made + length (made_nexts latches) ≤ n
    → AllByRecursion (IsFine n) (latch_drives variables made latches)
latches_fine variables made n [] some few room = tt
latches_fine variables made n (l ∷ latches) some few room =
    by_test (is_made l.next) room (λ more. latches_fine variables (suc made) n latches (λ _. some (omega arith)) few more) (λ more. latches_fine variables made n latches (λ _. some (omega arith)) few more)
  where
    by_test : (b : Bool) → made + length (cond b (l.next ∷ made_nexts latches) (made_nexts latches)) ≤ n
        → (suc made + length (made_nexts latches) ≤ n → AllByRecursion (IsFine n) (latch_drives variables (suc made) latches))
        → (made + length (made_nexts latches) ≤ n → AllByRecursion (IsFine n) (latch_drives variables made latches))
        → AllByRecursion (IsFine n) (cond b (latch made l.reset ∷ latch_drives variables (suc made) latches) (latch (signal_in variables (variable_of l.next)) l.reset ∷ latch_drives variables made latches))
    by_test true fits one other = (record { reads = omega (arith, fits); pins = tt }, one (omega (arith, fits)))
    by_test false fits one other = (record { reads = below variables (variable_of l.next) n (some (omega arith)) few; pins = tt }, other fits)

inputs_fine : (n : ℕ) (xs : List ℕ) → AllByRecursion (IsFine n) (map (λ _. input) xs)
inputs_fine n [] = tt
inputs_fine n (x ∷ xs) = (record { reads = tt; pins = tt }, inputs_fine n xs)

gates_fine : {X : Type 0} (variables : List ℕ) (n : ℕ) (literals : X → List ℕ) (xs : List X) → (0 < length xs → 0 < n) → length variables ≤ n → ((x : X) → length (literals x) ≤ 255)
    → AllByRecursion (IsFine n) (map (λ x. gate_of variables (literals x)) xs)
gates_fine variables n literals [] some few short = tt
gates_fine variables n literals (x ∷ xs) some few short = (gate_fine variables (literals x) n (some (omega arith)) few (short x), gates_fine variables n literals xs (λ _. some (omega arith)) few short)

pub both : {X : Type 0} (P : X → Type 0) (xs ys : List X) → AllByRecursion P xs → AllByRecursion P ys → AllByRecursion P (xs ++ ys)
both P [] ys a b = b
both P (x ∷ xs) ys a b = (a.0, both P xs ys a.1 b)

pub drives_fine : (s : Sections) → AllByRecursion (IsFine (signal_count s)) (drives_of s)
drives_fine s =
    let vs : List ℕ = variables_of s in
    let n : ℕ = signal_count s in
    let P : Drive → Type 0 = IsFine (signal_count s) in
    let v = variables-count s in
    both (IsFine (signal_count s)) (map (λ _. input) s.inputs ++ latch_drives (variables_of s) (length (variables_of s)) s.latches) (gate_drives (variables_of s) s)
    (both (IsFine (signal_count s)) (map (λ _. input) s.inputs) (latch_drives (variables_of s) (length (variables_of s)) s.latches) (inputs_fine (signal_count s) s.inputs)
    (latches_fine (variables_of s) (length (variables_of s)) (signal_count s) s.latches (λ some. omega (arith, v, some)) (omega arith) (omega arith)))
    (both (IsFine (signal_count s)) (map (λ (a : AndLine). gate_of (variables_of s) (a.left ∷ a.right ∷ [])) s.ands ++ map (λ next. gate_of (variables_of s) (next ∷ [])) (made_nexts s.latches)) (map (λ literal. gate_of (variables_of s) (literal ∷ [])) s.outputs)
    (both (IsFine (signal_count s)) (map (λ (a : AndLine). gate_of (variables_of s) (a.left ∷ a.right ∷ [])) s.ands) (map (λ next. gate_of (variables_of s) (next ∷ [])) (made_nexts s.latches))
    (gates_fine (variables_of s) (signal_count s) (λ (a : AndLine). a.left ∷ a.right ∷ []) s.ands (λ some. omega (arith, v, some)) (omega arith) (λ a. omega arith))
    (gates_fine (variables_of s) (signal_count s) (λ (next : ℕ). next ∷ []) (made_nexts s.latches) (λ some. omega (arith, some)) (omega arith) (λ a. omega arith)))
    (gates_fine (variables_of s) (signal_count s) (λ (literal : ℕ). literal ∷ []) s.outputs (λ some. omega (arith, some)) (omega arith) (λ a. omega arith)))
