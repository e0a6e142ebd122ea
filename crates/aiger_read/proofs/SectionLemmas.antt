-- The counted lines by their kinds: inputs, then latches, then outputs, then ands.
use Rattle.std.proofs.Common.{◌≡◌, ℕ, zero, suc, ◌+◌, ◌<◌, ◌≤◌, false, cond, leb, List, [], ◌∷◌, ◌++◌, map, length, refl, sym, ◌∙◌, ap, ap₂, subst, arith, append-nil}
use Rattle.std.specs.List.{range_with_len, AllByRecursion}
use Rattle.std.proofs.lemmas.Bool.{le-leb}
use Rattle.std.proofs.lemmas.Bool.Decides.{nat_tests}
use Rattle.std.proofs.lemmas.List.{map-append, length-map}
use Rattle.std.proofs.lemmas.List.Elements.{filter_map-append}
use Rattle.std.proofs.lemmas.List.FromFn.{length-range_with_len}
use Rattle.std.proofs.lemmas.Grind.{flat_map-append}
use Rattle.aiger_read.specs.declared.header.Header.{Header}
use Rattle.aiger_read.specs.declared.statement.Role.{Role}
use Rattle.aiger_read.specs.declared.statement.Role.TheVariants as role
use Rattle.aiger_read.specs.declared.statement.Statement.{Statement}
use Rattle.aiger_read.specs.declared.statement.Statement.TheVariants.{Input, Latch, Output, And}
use Rattle.aiger_read.specs.declared.statement.LatchLine.{LatchLine}
use Rattle.aiger_read.specs.declared.statement.AndLine.{AndLine}
use Rattle.aiger_read.specs.Header.{header_of, counted}
use Rattle.aiger_read.specs.Statements.{role_at, variable_of, statement_in, statement_at, statements, defines, defined_in}
use Rattle.aiger_read.specs.Circuit.{input_said, latch_said, output_said, and_said, inputs_in, latches_in, outputs_in, ands_in}
use Rattle.aiger_read.specs.Text.{body_of}
use Rattle.aiger_read.specs.Making.{IsSorted}

-- ---- kinds

abbrev pub kind_of : Statement → Role
kind_of (Input literal) = role.Input
kind_of (Latch l) = role.Latch
kind_of (Output literal) = role.Output
kind_of (And a) = role.And

kind-in : (r : Role) (numbers : List ℕ) → kind_of (statement_in r numbers) ≡ r
kind-in role.Input numbers = refl
kind-in role.Latch numbers = refl
kind-in role.Output numbers = refl
kind-in role.And numbers = refl

abbrev AreOf : Role → List Statement → Type 0
AreOf r body = AllByRecursion (λ s. kind_of s ≡ r) body

-- What a run of statements of one kind says.
record Says (body : List Statement) (is : List ℕ) (ls : List LatchLine) (os : List ℕ) (ns : List AndLine) (ds : List ℕ) : Type 0 where
  inputs : inputs_in body ≡ is
  latches : latches_in body ≡ ls
  outputs : outputs_in body ≡ os
  ands : ands_in body ≡ ns
  defined : defined_in body ≡ ds

says_inputs : (body : List Statement) → AreOf role.Input body → (xs : List ℕ) × Says body xs [] [] [] (map variable_of xs) × (length xs ≡ length body)
says_inputs [] are = ([], record { inputs = refl; latches = refl; outputs = refl; ands = refl; defined = refl }, refl)
says_inputs (Input literal ∷ body) are =
    let (xs, says, size) = says_inputs body are.1 in (
      literal ∷ xs,
      record { inputs = ap (λ ys. literal ∷ ys) says.inputs; latches = says.latches; outputs = says.outputs; ands = says.ands; defined = ap (λ ys. variable_of literal ∷ ys) says.defined },
      ap suc size,
    )
says_inputs (Latch l ∷ body) are = absurd (let e : role.Latch ≡ role.Input = are.0 in cc)
says_inputs (Output literal ∷ body) are = absurd (let e : role.Output ≡ role.Input = are.0 in cc)
says_inputs (And a ∷ body) are = absurd (let e : role.And ≡ role.Input = are.0 in cc)

says_latches : (body : List Statement) → AreOf role.Latch body → (xs : List LatchLine) × Says body [] xs [] [] (map (λ l. variable_of l.literal) xs) × (length xs ≡ length body)
says_latches [] are = ([], record { inputs = refl; latches = refl; outputs = refl; ands = refl; defined = refl }, refl)
says_latches (Latch l ∷ body) are =
    let (xs, says, size) = says_latches body are.1 in (
      l ∷ xs,
      record { inputs = says.inputs; latches = ap (λ ys. l ∷ ys) says.latches; outputs = says.outputs; ands = says.ands; defined = ap (λ ys. variable_of l.literal ∷ ys) says.defined },
      ap suc size,
    )
says_latches (Input literal ∷ body) are = absurd (let e : role.Input ≡ role.Latch = are.0 in cc)
says_latches (Output literal ∷ body) are = absurd (let e : role.Output ≡ role.Latch = are.0 in cc)
says_latches (And a ∷ body) are = absurd (let e : role.And ≡ role.Latch = are.0 in cc)

says_outputs : (body : List Statement) → AreOf role.Output body → (xs : List ℕ) × Says body [] [] xs [] [] × (length xs ≡ length body)
says_outputs [] are = ([], record { inputs = refl; latches = refl; outputs = refl; ands = refl; defined = refl }, refl)
says_outputs (Output literal ∷ body) are =
    let (xs, says, size) = says_outputs body are.1 in (
      literal ∷ xs,
      record { inputs = says.inputs; latches = says.latches; outputs = ap (λ ys. literal ∷ ys) says.outputs; ands = says.ands; defined = says.defined },
      ap suc size,
    )
says_outputs (Input literal ∷ body) are = absurd (let e : role.Input ≡ role.Output = are.0 in cc)
says_outputs (Latch l ∷ body) are = absurd (let e : role.Latch ≡ role.Output = are.0 in cc)
says_outputs (And a ∷ body) are = absurd (let e : role.And ≡ role.Output = are.0 in cc)

says_ands : (body : List Statement) → AreOf role.And body → (xs : List AndLine) × Says body [] [] [] xs (map (λ a. variable_of a.literal) xs) × (length xs ≡ length body)
says_ands [] are = ([], record { inputs = refl; latches = refl; outputs = refl; ands = refl; defined = refl }, refl)
says_ands (And a ∷ body) are =
    let (xs, says, size) = says_ands body are.1 in (
      a ∷ xs,
      record { inputs = says.inputs; latches = says.latches; outputs = says.outputs; ands = ap (λ ys. a ∷ ys) says.ands; defined = ap (λ ys. variable_of a.literal ∷ ys) says.defined },
      ap suc size,
    )
says_ands (Input literal ∷ body) are = absurd (let e : role.Input ≡ role.And = are.0 in cc)
says_ands (Latch l ∷ body) are = absurd (let e : role.Latch ≡ role.And = are.0 in cc)
says_ands (Output literal ∷ body) are = absurd (let e : role.Output ≡ role.And = are.0 in cc)

-- runs one behind the other
joined : (a b : List Statement) (i₁ i₂ : List ℕ) (l₁ l₂ : List LatchLine) (o₁ o₂ : List ℕ) (n₁ n₂ : List AndLine) (d₁ d₂ : List ℕ)
    → Says a i₁ l₁ o₁ n₁ d₁ → Says b i₂ l₂ o₂ n₂ d₂ → Says (a ++ b) (i₁ ++ i₂) (l₁ ++ l₂) (o₁ ++ o₂) (n₁ ++ n₂) (d₁ ++ d₂)
joined a b i₁ i₂ l₁ l₂ o₁ o₂ n₁ n₂ d₁ d₂ x y = record {
  inputs = filter_map-append input_said a b ∙ ap₂ (λ (p q : List ℕ). p ++ q) x.inputs y.inputs;
  latches = filter_map-append latch_said a b ∙ ap₂ (λ (p q : List LatchLine). p ++ q) x.latches y.latches;
  outputs = filter_map-append output_said a b ∙ ap₂ (λ (p q : List ℕ). p ++ q) x.outputs y.outputs;
  ands = filter_map-append and_said a b ∙ ap₂ (λ (p q : List AndLine). p ++ q) x.ands y.ands;
  defined = flat_map-append defines a b ∙ ap₂ (λ (p q : List ℕ). p ++ q) x.defined y.defined;
}

-- ---- places

pub range-append : (a m n : ℕ) → range_with_len a (m + n) ≡ range_with_len a m ++ range_with_len (a + m) n
range-append a zero n = let e : zero + n ≡ n = omega arith in let f : a + zero ≡ a = omega arith in ap (range_with_len a) e ∙ ap (λ b. range_with_len b n) (sym f)
range-append a (suc m) n =
    let e : suc m + n ≡ suc (m + n) = omega arith in
    let f : (a + 1) + m ≡ a + suc m = omega arith in
    ap (range_with_len a) e ∙ ap (λ xs. a ∷ xs) (range-append (a + 1) m n ∙ ap (λ b. range_with_len (a + 1) m ++ range_with_len b n) f)

-- the statements at so many places from one on
abbrev run : Header → List (List ℕ) → ℕ → ℕ → List Statement
run h lines a n = map (statement_at h lines) (range_with_len a n)

run_of : (r : Role) (h : Header) (lines : List (List ℕ)) (a n : ℕ) → ((place : ℕ) → a ≤ place → place < a + n → role_at h place ≡ r) → AreOf r (run h lines a n)
run_of r h lines a zero roles = tt
run_of r h lines a (suc n) roles =
    (kind-in (role_at h a) _ ∙ roles a (omega arith) (omega arith), run_of r h lines (a + 1) n (λ place from upto. roles place (omega arith) (omega arith)))

beyond : (m n : ℕ) → n < m → leb m n ≡ false
beyond m n h = grind (arith, nat_tests)

inputs_here : (h : Header) (place : ℕ) → 1 ≤ place → place < 1 + h.inputs → role_at h place ≡ role.Input
unfolding role_at
inputs_here h place from upto =
    ap (λ b. cond b role.Input (cond (leb place (h.inputs + h.latches)) role.Latch (cond (leb place (h.inputs + h.latches + h.outputs)) role.Output role.And))) (le-leb place h.inputs (omega arith))

latches_here : (h : Header) (place : ℕ) → 1 + h.inputs ≤ place → place < (1 + h.inputs) + h.latches → role_at h place ≡ role.Latch
unfolding role_at
latches_here h place from upto =
    ap (λ b. cond b role.Input (cond (leb place (h.inputs + h.latches)) role.Latch (cond (leb place (h.inputs + h.latches + h.outputs)) role.Output role.And))) (beyond place h.inputs (omega arith))
    ∙ ap (λ b. cond b role.Latch (cond (leb place (h.inputs + h.latches + h.outputs)) role.Output role.And)) (le-leb place (h.inputs + h.latches) (omega arith))

outputs_here : (h : Header) (place : ℕ) → (1 + h.inputs) + h.latches ≤ place → place < ((1 + h.inputs) + h.latches) + h.outputs → role_at h place ≡ role.Output
unfolding role_at
outputs_here h place from upto =
    ap (λ b. cond b role.Input (cond (leb place (h.inputs + h.latches)) role.Latch (cond (leb place (h.inputs + h.latches + h.outputs)) role.Output role.And))) (beyond place h.inputs (omega arith))
    ∙ ap (λ b. cond b role.Latch (cond (leb place (h.inputs + h.latches + h.outputs)) role.Output role.And)) (beyond place (h.inputs + h.latches) (omega arith))
    ∙ ap (λ b. cond b role.Output role.And) (le-leb place (h.inputs + h.latches + h.outputs) (omega arith))

ands_here : (h : Header) (place : ℕ) → ((1 + h.inputs) + h.latches) + h.outputs ≤ place → role_at h place ≡ role.And
unfolding role_at
ands_here h place from =
    ap (λ b. cond b role.Input (cond (leb place (h.inputs + h.latches)) role.Latch (cond (leb place (h.inputs + h.latches + h.outputs)) role.Output role.And))) (beyond place h.inputs (omega arith))
    ∙ ap (λ b. cond b role.Latch (cond (leb place (h.inputs + h.latches + h.outputs)) role.Output role.And)) (beyond place (h.inputs + h.latches) (omega arith))
    ∙ ap (λ b. cond b role.Output role.And) (beyond place (h.inputs + h.latches + h.outputs) (omega arith))

statements-split : (h : Header) (lines : List (List ℕ)) → statements h lines (counted h)
    ≡ ((run h lines 1 h.inputs ++ run h lines (1 + h.inputs) h.latches) ++ run h lines ((1 + h.inputs) + h.latches) h.outputs)
    ++ run h lines (((1 + h.inputs) + h.latches) + h.outputs) h.ands
unfolding statements
statements-split h lines =
    let f : ℕ → Statement = statement_at h lines in
    let i : ℕ = h.inputs in
    let l : ℕ = h.latches in
    let o : ℕ = h.outputs in
    let e3 : 1 + ((h.inputs + h.latches) + h.outputs) ≡ ((1 + h.inputs) + h.latches) + h.outputs = omega arith in
    let e2 : 1 + (h.inputs + h.latches) ≡ (1 + h.inputs) + h.latches = omega arith in
    ap (map f) (range-append 1 ((h.inputs + h.latches) + h.outputs) h.ands)
    ∙ map-append f (range_with_len 1 ((h.inputs + h.latches) + h.outputs)) (range_with_len (1 + ((h.inputs + h.latches) + h.outputs)) h.ands)
    ∙ ap₂ (λ (p q : List Statement). p ++ q)
    (ap (map f) (range-append 1 (h.inputs + h.latches) h.outputs)
    ∙ map-append f (range_with_len 1 (h.inputs + h.latches)) (range_with_len (1 + (h.inputs + h.latches)) h.outputs)
    ∙ ap₂ (λ (p q : List Statement). p ++ q)
    (ap (map f) (range-append 1 h.inputs h.latches) ∙ map-append f (range_with_len 1 h.inputs) (range_with_len (1 + h.inputs) h.latches))
    (ap (λ a. map f (range_with_len a h.outputs)) e2))
    (ap (λ a. map f (range_with_len a h.ands)) e3)

-- ---- the body of a text

run-length : (h : Header) (lines : List (List ℕ)) (a n : ℕ) → length (run h lines a n) ≡ n
run-length h lines a n = length-map (range_with_len a n) (statement_at h lines) ∙ length-range_with_len a n

nothing : {A : Type 0} (xs : List A) → (([] ++ xs) ++ []) ++ [] ≡ xs
nothing xs = append-nil (xs ++ []) ∙ append-nil xs

sorted_by : (h : Header) (body : List Statement) (is : List ℕ) (ls : List LatchLine) (os : List ℕ) (ns : List AndLine)
    → Says body (((is ++ []) ++ []) ++ []) ((([] ++ ls) ++ []) ++ []) ((([] ++ []) ++ os) ++ []) ((([] ++ []) ++ []) ++ ns)
    (((map variable_of is ++ map (λ l. variable_of l.literal) ls) ++ []) ++ map (λ a. variable_of a.literal) ns)
    → length is ≡ h.inputs → length ls ≡ h.latches → length os ≡ h.outputs → length ns ≡ h.ands → IsSorted h body
sorted_by h body is ls os ns says size_i size_l size_o size_n =
    let ei : inputs_in body ≡ is = says.inputs ∙ append-nil ((is ++ []) ++ []) ∙ append-nil (is ++ []) ∙ append-nil is in
    let el : latches_in body ≡ ls = says.latches ∙ append-nil (ls ++ []) ∙ append-nil ls in
    let eo : outputs_in body ≡ os = says.outputs ∙ append-nil os in
    let en : ands_in body ≡ ns = says.ands in
    record {
      variables = says.defined ∙ ap (λ xs. xs ++ map (λ (a : AndLine). variable_of a.literal) ns) (append-nil (map variable_of is ++ map (λ (l : LatchLine). variable_of l.literal) ls))
          ∙ ap (λ xs. (map variable_of xs ++ map (λ (l : LatchLine). variable_of l.literal) ls) ++ map (λ (a : AndLine). variable_of a.literal) ns) (sym ei)
          ∙ ap (λ xs. (map variable_of (inputs_in body) ++ map (λ (l : LatchLine). variable_of l.literal) xs) ++ map (λ (a : AndLine). variable_of a.literal) ns) (sym el)
          ∙ ap (λ xs. (map variable_of (inputs_in body) ++ map (λ (l : LatchLine). variable_of l.literal) (latches_in body)) ++ map (λ (a : AndLine). variable_of a.literal) xs) (sym en);
      inputs = ap length ei ∙ size_i;
      latches = ap length el ∙ size_l;
      outputs = ap length eo ∙ size_o;
      ands = ap length en ∙ size_n;
    }

pub body_sorted : (lines : List (List ℕ)) → IsSorted (header_of lines) (body_of lines)
unfolding body_of
body_sorted lines =
    let h : Header = header_of lines in
    let (is, says_i, size_i) = says_inputs (run h lines 1 h.inputs) (run_of role.Input h lines 1 h.inputs (inputs_here h)) in
    let (ls, says_l, size_l) = says_latches (run h lines (1 + h.inputs) h.latches) (run_of role.Latch h lines (1 + h.inputs) h.latches (latches_here h)) in
    let (os, says_o, size_o) = says_outputs (run h lines ((1 + h.inputs) + h.latches) h.outputs) (run_of role.Output h lines ((1 + h.inputs) + h.latches) h.outputs (outputs_here h)) in
    let (ns, says_n, size_n) = says_ands (run h lines (((1 + h.inputs) + h.latches) + h.outputs) h.ands)
    (run_of role.And h lines (((1 + h.inputs) + h.latches) + h.outputs) h.ands (λ place from upto. ands_here h place from)) in
    subst (IsSorted h) (sym (statements-split h lines))
    (sorted_by h _ is ls os ns (joined _ _ _ _ _ _ _ _ _ _ _ _ (joined _ _ _ _ _ _ _ _ _ _ _ _ (joined _ _ _ _ _ _ _ _ _ _ _ _ says_i says_l) says_o) says_n)
    (size_i ∙ run-length h lines 1 h.inputs) (size_l ∙ run-length h lines (1 + h.inputs) h.latches) (size_o ∙ run-length h lines ((1 + h.inputs) + h.latches) h.outputs)
    (size_n ∙ run-length h lines (((1 + h.inputs) + h.latches) + h.outputs) h.ands))
