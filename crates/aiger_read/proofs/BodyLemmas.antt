-- What lawful lines leave: variables are defined once and are small, and literals that are used are driven.
use Rattle.std.proofs.Common.{◌≡◌, ℕ, zero, suc, ◌+◌, ◌-◌, ◌/◌, ◌^◌, ◌<◌, ◌≤◌, Bool, true, false, not, cond, eqb, ltb, ◌||◌, List, [], ◌∷◌, ◌++◌, map, length, drop, None, Some, refl, sym, ◌∙◌, ap, subst, arith, zero-add, add_assoc}
use Rattle.std.specs.Prelude.{slice_index}
use Rattle.std.specs.List.{AllByRecursion, list_any, list_all}
use Rattle.std.proofs.lemmas.Bool.{and_parts, eqb-true}
use Rattle.aiger_read.specs.declared.fault.AigerKind.{AigerKind}
use Rattle.aiger_read.specs.declared.fault.AigerKind.TheVariants.{Ending, BadLine, BadLiteral, Repeated, BadReset, UnknownInit}
use Rattle.aiger_read.specs.declared.header.Header.{Header}
use Rattle.aiger_read.specs.declared.statement.Role.{Role}
use Rattle.aiger_read.specs.declared.statement.Role.TheVariants as role
use Rattle.aiger_read.specs.Lines.{line_at, words_in, number_in, is_number, numbers_in, numbers_on}
use Rattle.aiger_read.specs.Header.{header_numbers, header_of, counted}
use Rattle.aiger_read.specs.Statements.{role_at, variable_of, statement_in, statement_at, statements, defines, defined_in, takes, has_bad_literal, has_bad_reset, has_unknown_reset, repeats, fault_in_line}
use Rattle.aiger_read.specs.Faults.{fault_at_counted, AreLawful}
use Rattle.aiger_read.specs.Text.{body_of}
use Rattle.aiger_read.proofs.NumberLemmas.{number-parts}
use Rattle.aiger_read.specs.Making.{times_in, HasSmallCounts}
use Rattle.aiger_read.proofs.ReadLemmas.{at_counted, statements_none, statements_more, defined_more}
use Rattle.aiger_read.proofs.DriveLemmas.{both}

-- ---- numbers are small

numbers_small : (words : List (List ℕ)) → list_all is_number words ≡ true → AllByRecursion (λ n. n ≤ 4294967295) (map number_in words)
numbers_small [] all = tt
numbers_small (word ∷ words) all = let parts = and_parts (is_number word) (list_all is_number words) all in ((number-parts word parts.0).within, numbers_small words parts.1)

in_small : (words : List (List ℕ)) → AllByRecursion (λ n. n ≤ 4294967295) (numbers_in words)
in_small words = by_test (list_all is_number words) refl
  where
    by_test : (b : Bool) → list_all is_number words ≡ b → AllByRecursion (λ n. n ≤ 4294967295) (cond b (map number_in words) [])
    by_test true e = numbers_small words e
    by_test false e = tt

index_small : (xs : List ℕ) (k : ℕ) → AllByRecursion (λ n. n ≤ 4294967295) xs → slice_index xs k ≤ 4294967295
index_small [] k all = omega arith
index_small (x ∷ xs) zero all = all.0
index_small (x ∷ xs) (suc k) all = index_small xs k all.1

on_small : (line : List ℕ) (k : ℕ) → slice_index (numbers_on line) k ≤ 4294967295
unfolding numbers_on
on_small line k = index_small (numbers_in (words_in line)) k (in_small (words_in line))

header_small : (line : List ℕ) (k : ℕ) → slice_index (header_numbers line) k ≤ 4294967295
unfolding header_numbers
header_small line k = by_test _
  where
    by_test : (b : Bool) → slice_index (cond b (numbers_in (drop 1 (words_in line))) []) k ≤ 4294967295
    by_test true = index_small (numbers_in (drop 1 (words_in line))) k (in_small (drop 1 (words_in line)))
    by_test false = omega arith

pub counts_small : (lines : List (List ℕ)) → HasSmallCounts (header_of lines)
unfolding header_of
counts_small lines = record { inputs = header_small (line_at lines 0) 1; latches = header_small (line_at lines 0) 2; outputs = header_small (line_at lines 0) 3; ands = header_small (line_at lines 0) 4 }

-- ---- variables

half_small : (literal : ℕ) → literal ≤ 4294967295 → literal / 2 < 2 ^ 32
half_small literal small = omega arith

defines_small : (r : Role) (numbers : List ℕ) → slice_index numbers 0 ≤ 4294967295 → AllByRecursion (λ v. v < 2 ^ 32) (defines (statement_in r numbers))
defines_small role.Input numbers small = (half_small (slice_index numbers 0) small, tt)
defines_small role.Latch numbers small = (half_small (slice_index numbers 0) small, tt)
defines_small role.Output numbers small = tt
defines_small role.And numbers small = (half_small (slice_index numbers 0) small, tt)

pub times_in-append : (m : ℕ) (a b : List ℕ) → times_in m (a ++ b) ≡ times_in m a + times_in m b
times_in-append m [] b = sym (zero-add (times_in m b))
times_in-append m (x ∷ a) b = ap (λ t. cond (eqb m x) 1 0 + t) (times_in-append m a b) ∙ sym (add_assoc (cond (eqb m x) 1 0) (times_in m a) (times_in m b))

not_there : (m : ℕ) (vs : List ℕ) → list_any (λ v. eqb m v) vs ≡ false → times_in m vs ≡ 0
not_there m [] none = refl
not_there m (v ∷ vs) none = by_test (eqb m v) refl (not_there m vs) none
  where
    by_test : (b : Bool) → eqb m v ≡ b → (list_any (λ v. eqb m v) vs ≡ false → times_in m vs ≡ 0) → (b || list_any (λ v. eqb m v) vs) ≡ false → cond b 1 0 + times_in m vs ≡ 0
    by_test true e ih fails = cc
    by_test false e ih fails = let rest = ih fails in omega (arith, rest)

-- the tests on a line that has no fault
unrepeated : (a b c d e : Bool) (f g h i j : AigerKind) → cond a (Some f) (cond b (Some g) (cond c (Some h) (cond d (Some i) (cond e (Some j) None)))) ≡ None → c ≡ false
unrepeated true b c d e f g h i j none = cc
unrepeated false true c d e f g h i j none = cc
unrepeated false false true d e f g h i j none = cc
unrepeated false false false d e f g h i j none = refl

line_fresh : (h : Header) (before : List ℕ) (r : Role) (numbers : List ℕ) → fault_in_line h before r numbers ≡ None → repeats before r numbers ≡ false
unfolding fault_in_line
line_fresh h before r numbers none =
    unrepeated (not (takes r (length numbers))) (has_bad_literal h r numbers) (repeats before r numbers) (has_bad_reset r numbers) (has_unknown_reset r numbers)
    BadLine BadLiteral Repeated BadReset UnknownInit none

one_fresh : (m v : ℕ) (before : List ℕ) → list_any (λ w. eqb v w) before ≡ false → times_in m before ≤ 1 → times_in m (before ++ v ∷ []) ≤ 1
one_fresh m v before fresh once = by_test (eqb m v) refl
  where
    all : times_in m (before ++ v ∷ []) ≡ times_in m before + (cond (eqb m v) 1 0 + 0)
    all = times_in-append m before (v ∷ [])

    by_test : (b : Bool) → eqb m v ≡ b → times_in m (before ++ v ∷ []) ≤ 1
    by_test true e =
        let none : times_in m before ≡ 0 = subst (λ x. times_in x before ≡ 0) (sym (eqb-true m v e)) (not_there v before fresh) in
        let one : ◌≡◌ {A = ℕ} (cond (eqb m v) 1 0) 1 = ap (λ b. cond b 1 0) e in
        omega (arith, all, none, one)
    by_test false e =
        let none : ◌≡◌ {A = ℕ} (cond (eqb m v) 1 0) 0 = ap (λ b. cond b 1 0) e in
        omega (arith, all, none, once)

defines_once : (m : ℕ) (before : List ℕ) (r : Role) (numbers : List ℕ) → repeats before r numbers ≡ false → times_in m before ≤ 1 → times_in m (before ++ defines (statement_in r numbers)) ≤ 1
defines_once m before role.Input numbers fresh once = one_fresh m (variable_of (slice_index numbers 0)) before fresh once
defines_once m before role.Latch numbers fresh once = one_fresh m (variable_of (slice_index numbers 0)) before fresh once
defines_once m before role.Output numbers fresh once = let e = times_in-append m before [] in omega (arith, e, once)
defines_once m before role.And numbers fresh once = one_fresh m (variable_of (slice_index numbers 0)) before fresh once

counted_fault : (h : Header) (lines : List (List ℕ)) (n : ℕ) → fault_at_counted h lines (n + 1) ≡ None
    → fault_in_line h (defined_in (statements h lines n)) (role_at h (n + 1)) (numbers_on (line_at lines (n + 1))) ≡ None
unfolding fault_at_counted
counted_fault h lines n none =
    let e : (n + 1) - 1 ≡ n = omega arith in
    ap (λ k. fault_in_line h (defined_in (statements h lines k)) (role_at h (n + 1)) (numbers_on (line_at lines (n + 1)))) (sym e) ∙ by_test (ltb (n + 1) (length lines)) none
  where
    by_test : (b : Bool) → cond b (fault_in_line h (defined_in (statements h lines ((n + 1) - 1))) (role_at h (n + 1)) (numbers_on (line_at lines (n + 1)))) (Some Ending) ≡ None
        → fault_in_line h (defined_in (statements h lines ((n + 1) - 1))) (role_at h (n + 1)) (numbers_on (line_at lines (n + 1))) ≡ None
    by_test true e = e
    by_test false e = cc

pub defined_once : (lines : List (List ℕ)) → AreLawful lines → (n : ℕ) → n ≤ counted (header_of lines) → (m : ℕ) → times_in m (defined_in (statements (header_of lines) lines n)) ≤ 1
defined_once lines lawful zero within m = let e = ap (λ b. times_in m (defined_in b)) (statements_none (header_of lines) lines) in omega (arith, e)
defined_once lines lawful (suc n) within m =
    let h : Header = header_of lines in
    let ih = defined_once lines lawful n (omega arith) m in
    let none : fault_at_counted (header_of lines) lines (n + 1) ≡ None = sym (at_counted lines (n + 1) (omega arith) (omega arith)) ∙ lawful.each (n + 1) in
    let fresh = line_fresh h (defined_in (statements h lines n)) (role_at h (n + 1)) (numbers_on (line_at lines (n + 1))) (counted_fault h lines n none) in
    let more : defined_in (statements h lines (suc n)) ≡ defined_in (statements h lines n) ++ defines (statement_at h lines (n + 1)) =
    ap (λ k. defined_in (statements h lines k)) (let e : suc n ≡ n + 1 = omega arith in e) ∙ ap defined_in (statements_more h lines n) ∙ sym (defined_more (statements h lines n) (statement_at h lines (n + 1))) in
    subst (λ vs. times_in m vs ≤ 1) (sym more) (defines_once m (defined_in (statements h lines n)) (role_at h (n + 1)) (numbers_on (line_at lines (n + 1))) fresh ih)

pub defined_small : (h : Header) (lines : List (List ℕ)) (n : ℕ) → AllByRecursion (λ v. v < 2 ^ 32) (defined_in (statements h lines n))
defined_small h lines zero = subst (λ b. AllByRecursion (λ v. v < 2 ^ 32) (defined_in b)) (sym (statements_none h lines)) tt
defined_small h lines (suc n) =
    let more : defined_in (statements h lines (suc n)) ≡ defined_in (statements h lines n) ++ defines (statement_at h lines (n + 1)) =
    ap (λ k. defined_in (statements h lines k)) (let e : suc n ≡ n + 1 = omega arith in e) ∙ ap defined_in (statements_more h lines n) ∙ sym (defined_more (statements h lines n) (statement_at h lines (n + 1))) in
    subst (AllByRecursion (λ v. v < 2 ^ 32)) (sym more)
    (both (λ v. v < 2 ^ 32) (defined_in (statements h lines n)) (defines (statement_at h lines (n + 1))) (defined_small h lines n) (defines_small (role_at h (n + 1)) (numbers_on (line_at lines (n + 1))) (on_small (line_at lines (n + 1)) 0)))

-- The variables of a text with lawful lines.
pub body_once : (lines : List (List ℕ)) → AreLawful lines → (m : ℕ) → times_in m (defined_in (body_of lines)) ≤ 1
unfolding body_of
body_once lines lawful m = defined_once lines lawful (counted (header_of lines)) (omega arith) m

pub body_small : (lines : List (List ℕ)) → AllByRecursion (λ v. v < 2 ^ 32) (defined_in (body_of lines))
unfolding body_of
body_small lines = defined_small (header_of lines) lines (counted (header_of lines))
