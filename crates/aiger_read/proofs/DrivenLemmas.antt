-- Where no line uses a variable that none defines, each literal that is used is driven.
use Rattle.std.proofs.Common.{◌≡◌, ℕ, suc, ◌+◌, ◌<◌, ◌≤◌, Bool, true, false, not, cond, ltb, ◌||◌, List, [], ◌∷◌, length, position, Option, None, Some, inl, inr, refl, sym, ◌∙◌, ap, subst, arith}
use Rattle.std.specs.Prelude.{option_map}
use Rattle.std.specs.List.{AllByRecursion, position_or_len}
use Rattle.std.specs.Option.{option_or}
use Rattle.std.proofs.lemmas.Bool.{cases_lt, lt-ltb, le-ltb, cond-true, cond-false}
use Rattle.aiger_read.specs.declared.fault.AigerKind.TheVariants.{Undriven, TooManySignals}
use Rattle.aiger_read.specs.declared.statement.Statement.{Statement}
use Rattle.aiger_read.specs.declared.statement.Statement.TheVariants.{Input, Latch, Output, And}
use Rattle.aiger_read.specs.Statements.{defined_in}
use Rattle.aiger_read.specs.Circuit.{sections_in, variables_of, latches_in, outputs_in, ands_in}
use Rattle.aiger_read.specs.Faults.{Faulty}
use Rattle.aiger_read.specs.Text.{is_undriven, uses_undriven, undriven_line, fault_in_whole}
use Rattle.aiger_read.proofs.TraceLemmas.{IsDriven, AreDriven}

-- ---- no item passes a test

past_all : {X : Type 0} (p : X → Bool) (xs : List X) → length xs ≤ position_or_len p xs → AllByRecursion (λ x. p x ≡ false) xs
past_all p [] past = tt
past_all p (x ∷ xs) past = by_test (p x) refl past (past_all p xs)
  where
    by_test : (b : Bool) → p x ≡ b → suc (length xs) ≤ cond (not b) (1 + position_or_len p xs) 0
        → (length xs ≤ position_or_len p xs → AllByRecursion (λ y. p y ≡ false) xs) → AllByRecursion (λ y. p y ≡ false) (x ∷ xs)
    by_test true is over ih = absurd (omega (arith, over))
    by_test false is over ih = (is, ih (omega (arith, over)))

none_passes : {X : Type 0} (p : X → Bool) (xs : List X) → position p xs ≡ None → AllByRecursion (λ x. p x ≡ false) xs
none_passes p xs none = past_all p xs (elim (cases_lt (position_or_len p xs) (length xs)) [
  | inl below ↦ absurd (some_is_none (position_or_len p xs) (sym (cond-true (ltb (position_or_len p xs) (length xs)) (Some (position_or_len p xs)) None (lt-ltb (position_or_len p xs) (length xs) below)) ∙ none))
  | inr past ↦ past
])
  where
    some_is_none : (n : ℕ) → Some n ≡ None → ⊥
    some_is_none n h = cc

left_false : (a b : Bool) → (a || b) ≡ false → a ≡ false
left_false true b h = h
left_false false b h = refl

right_false : (a b : Bool) → (a || b) ≡ false → b ≡ false
right_false true b h = cc
right_false false b h = h

-- ---- kind by kind

nexts_driven : (vs : List ℕ) (body : List Statement) → AllByRecursion (λ s. uses_undriven vs s ≡ false) body → AllByRecursion (λ l. IsDriven vs l.next) (latches_in body)
nexts_driven vs [] all = tt
nexts_driven vs (Input literal ∷ body) all = nexts_driven vs body all.1
nexts_driven vs (Latch l ∷ body) all = (left_false (is_undriven vs l.next) false all.0, nexts_driven vs body all.1)
nexts_driven vs (Output literal ∷ body) all = nexts_driven vs body all.1
nexts_driven vs (And a ∷ body) all = nexts_driven vs body all.1

outputs_driven : (vs : List ℕ) (body : List Statement) → AllByRecursion (λ s. uses_undriven vs s ≡ false) body → AllByRecursion (IsDriven vs) (outputs_in body)
outputs_driven vs [] all = tt
outputs_driven vs (Input literal ∷ body) all = outputs_driven vs body all.1
outputs_driven vs (Latch l ∷ body) all = outputs_driven vs body all.1
outputs_driven vs (Output literal ∷ body) all = (left_false (is_undriven vs literal) false all.0, outputs_driven vs body all.1)
outputs_driven vs (And a ∷ body) all = outputs_driven vs body all.1

lefts_driven : (vs : List ℕ) (body : List Statement) → AllByRecursion (λ s. uses_undriven vs s ≡ false) body → AllByRecursion (λ a. IsDriven vs a.left) (ands_in body)
lefts_driven vs [] all = tt
lefts_driven vs (Input literal ∷ body) all = lefts_driven vs body all.1
lefts_driven vs (Latch l ∷ body) all = lefts_driven vs body all.1
lefts_driven vs (Output literal ∷ body) all = lefts_driven vs body all.1
lefts_driven vs (And a ∷ body) all = (left_false (is_undriven vs a.left) (is_undriven vs a.right || false) all.0, lefts_driven vs body all.1)

rights_driven : (vs : List ℕ) (body : List Statement) → AllByRecursion (λ s. uses_undriven vs s ≡ false) body → AllByRecursion (λ a. IsDriven vs a.right) (ands_in body)
rights_driven vs [] all = tt
rights_driven vs (Input literal ∷ body) all = rights_driven vs body all.1
rights_driven vs (Latch l ∷ body) all = rights_driven vs body all.1
rights_driven vs (Output literal ∷ body) all = rights_driven vs body all.1
rights_driven vs (And a ∷ body) all =
    (left_false (is_undriven vs a.right) false (right_false (is_undriven vs a.left) (is_undriven vs a.right || false) all.0), rights_driven vs body all.1)

-- ---- the fault of the whole

no_line : (o : Option ℕ) → option_map (λ k. k + 2) o ≡ None → o ≡ None
no_line None none = refl
no_line (Some k) none = cc

pub are_driven : (body : List Statement) → defined_in body ≡ variables_of (sections_in body) → undriven_line body ≡ None → AreDriven (sections_in body)
are_driven body sorted none =
    let vs : List ℕ = variables_of (sections_in body) in
    let all : AllByRecursion (λ s. uses_undriven (variables_of (sections_in body)) s ≡ false) body
    = subst (λ ws. AllByRecursion (λ s. uses_undriven ws s ≡ false) body) sorted
    (none_passes (uses_undriven (defined_in body)) body (no_line (position (uses_undriven (defined_in body)) body) none)) in
    record { nexts = nexts_driven vs body all; outputs = outputs_driven vs body all; lefts = lefts_driven vs body all; rights = rights_driven vs body all }

pub undriven_fault : (limit : ℕ) (body : List Statement) (signals place : ℕ) → position (uses_undriven (defined_in body)) body ≡ Some place
    → fault_in_whole limit body signals ≡ Some (place + 2, Undriven)
unfolding fault_in_whole
undriven_fault limit body signals place there =
    ap (λ (o : Option ℕ). option_or {T = Faulty} (option_map (λ (line : ℕ). (line, Undriven)) (option_map (λ (k : ℕ). k + 2) o)) (cond (ltb limit signals) (Some (0, TooManySignals)) None)) there

pub many_fault : (limit : ℕ) (body : List Statement) (signals : ℕ) → position (uses_undriven (defined_in body)) body ≡ None → limit < signals
    → fault_in_whole limit body signals ≡ Some (0, TooManySignals)
unfolding fault_in_whole
many_fault limit body signals none over =
    ap (λ (o : Option ℕ). option_or {T = Faulty} (option_map (λ (line : ℕ). (line, Undriven)) (option_map (λ (k : ℕ). k + 2) o)) (cond (ltb limit signals) (Some (0, TooManySignals)) None)) none
    ∙ cond-true (ltb limit signals) (Some (0, TooManySignals)) None (lt-ltb limit signals over)

pub no_fault : (limit : ℕ) (body : List Statement) (signals : ℕ) → position (uses_undriven (defined_in body)) body ≡ None → signals ≤ limit
    → fault_in_whole limit body signals ≡ None
unfolding fault_in_whole
no_fault limit body signals none few =
    ap (λ (o : Option ℕ). option_or {T = Faulty} (option_map (λ (line : ℕ). (line, Undriven)) (option_map (λ (k : ℕ). k + 2) o)) (cond (ltb limit signals) (Some (0, TooManySignals)) None)) none
    ∙ cond-false (ltb limit signals) (Some (0, TooManySignals)) None (le-ltb limit signals few)

-- Without a fault of the whole each variable that is used is defined.
pub whole_driven : (limit : ℕ) (body : List Statement) (signals : ℕ) → fault_in_whole limit body signals ≡ None → undriven_line body ≡ None
unfolding fault_in_whole
whole_driven limit body signals none = by_line (undriven_line body) none
  where
    by_line : (o : Option ℕ) → option_or {T = Faulty} (option_map (λ (line : ℕ). (line, Undriven)) o) (cond (ltb limit signals) (Some (0, TooManySignals)) None) ≡ None → o ≡ None
    by_line None h = refl
    by_line (Some line) h = let no : ◌≡◌ {A = Option Faulty} (Some (line, Undriven)) None = h in cc
