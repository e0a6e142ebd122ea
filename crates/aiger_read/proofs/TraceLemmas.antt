-- A trace of the statements gives the circuit's trace, whose outputs are the bits of the output literals.
use Rattle.std.proofs.Common.{◌≡◌, ℕ, zero, suc, ◌+◌, ◌-◌, ◌/◌, ◌%◌, ◌<◌, ◌≤◌, Bool, true, false, not, cond, eqb, ◌&&◌, ◌||◌, List, [], ◌∷◌, ◌++◌, map, length, get_or, slice_get, None, Some, refl, sym, ◌∙◌, ap, ap₂, subst, arith, length-append, append_assoc}
use Rattle.std.specs.Prelude.{unwrap_or, slice_index_or}
use Rattle.std.specs.List.{AllByRecursion, list_any, list_all, position_or_len, range_with_len}
use Rattle.std.proofs.lemmas.Bool.{eqb-true, lt-ltb}
use Rattle.std.proofs.lemmas.Bool.Decides.{nat_tests}
use Rattle.std.proofs.lemmas.List.{length-map, get_or_append_left, get_or-append_right, get_or_past, get_or-map, map-append}
use Rattle.std.proofs.lemmas.Option.{get_or_from_slice_get, slice_get_within}
use Rattle.tm_bits.specs.declared.cover.Place.TheVariants.{Zero, One}
use Rattle.tm_bits.specs.Rows.{agrees_at, row_agrees}
use Rattle.tm_circuit.specs.Plain.{Plain, Drive, input, latch, gate}
use Rattle.tm_circuit.specs.Trace.{IsTrace, HasOneTrace, row_bit, driven, shown}
use Rattle.aiger_read.specs.declared.statement.Statement.{Statement}
use Rattle.aiger_read.specs.declared.statement.LatchLine.{LatchLine}
use Rattle.aiger_read.specs.declared.statement.AndLine.{AndLine}
use Rattle.aiger_read.specs.Statements.{variable_of}
use Rattle.aiger_read.specs.Circuit.{Sections, sections_in, variables_of, signal_in, place_for, asking, has_zero, gate_of, is_made, latch_drives, made_nexts}
use Rattle.aiger_read.specs.Text.{is_undriven}
use Rattle.aiger_read.specs.Trace.{IsAigerTrace, outputs_shown}
use Rattle.aiger_read.proofs.DriveLemmas.{drives_of}

-- ---- drives and bits side by side

-- A fact of the drive and the bit of each signal, from one signal on.
abbrev AllFrom : (ℕ → Drive → Bool → Type 0) → ℕ → List Drive → List Bool → Type 0
AllFrom P k [] [] = Unit {0}
AllFrom P k [] (b ∷ bs) = ⊥
AllFrom P k (d ∷ ds) [] = ⊥
AllFrom P k (d ∷ ds) (b ∷ bs) = P k d b × AllFrom P (suc k) ds bs

all_append : (P : ℕ → Drive → Bool → Type 0) (k m : ℕ) (ds es : List Drive) (bs cs : List Bool) → k + length ds ≡ m → AllFrom P k ds bs → AllFrom P m es cs → AllFrom P k (ds ++ es) (bs ++ cs)
all_append P k m [] es [] cs same a b = let e : k ≡ m = omega arith in subst (λ j. AllFrom P j es cs) (sym e) b
all_append P k m [] es (x ∷ bs) cs same a b = absurd a
all_append P k m (d ∷ ds) es [] cs same a b = absurd a
all_append P k m (d ∷ ds) es (x ∷ bs) cs same a b = (a.0, all_append P (suc k) m ds es bs cs (omega arith) a.1 b)

all_at : (P : ℕ → Drive → Bool → Type 0) (k i j : ℕ) (ds : List Drive) (bs : List Bool) (d : Drive) (b : Bool) → k + i ≡ j → AllFrom P k ds bs
    → (k + length ds ≤ j → P j d b) → P j (get_or ds i d) (get_or bs i b)
all_at P k i j [] [] d b same all past = past (omega (arith, same))
all_at P k i j [] (x ∷ bs) d b same all past = absurd all
all_at P k i j (e ∷ ds) [] d b same all past = absurd all
all_at P k zero j (e ∷ ds) (x ∷ bs) d b same all past = let is : k ≡ j = omega (arith, same) in subst (λ n. P n e x) is all.0
all_at P k (suc i) j (e ∷ ds) (x ∷ bs) d b same all past =
    all_at P (suc k) i j ds bs d b (omega (arith, same)) all.1 (λ over. past (omega (arith, over)))

all_length : (P : ℕ → Drive → Bool → Type 0) (k : ℕ) (ds : List Drive) (bs : List Bool) → AllFrom P k ds bs → length ds ≡ length bs
all_length P k [] [] all = refl
all_length P k [] (x ∷ bs) all = absurd all
all_length P k (e ∷ ds) [] all = absurd all
all_length P k (e ∷ ds) (x ∷ bs) all = ap suc (all_length P (suc k) ds bs all.1)

-- ---- variables that are driven

abbrev pub IsDriven : List ℕ → ℕ → Type 0
IsDriven variables literal = is_undriven variables literal ≡ false

found : (p : ℕ → Bool) (vs : List ℕ) → list_any p vs ≡ true → position_or_len p vs < length vs
found p [] any = cc
found p (v ∷ vs) any = by_test (p v) any (found p vs)
  where
    by_test : (b : Bool) → (b || list_any p vs) ≡ true → (list_any p vs ≡ true → position_or_len p vs < length vs) → cond (not b) (1 + position_or_len p vs) 0 < suc (length vs)
    by_test true e ih = omega arith
    by_test false e ih = let less = ih e in omega (arith, less)

found_at : (v d : ℕ) (vs : List ℕ) → position_or_len (λ w. eqb v w) vs < length vs → get_or vs (position_or_len (λ w. eqb v w) vs) d ≡ v
found_at v d [] less = absurd (omega arith)
found_at v d (w ∷ vs) less = by_test (eqb v w) refl less (found_at v d vs)
  where
    by_test : (b : Bool) → eqb v w ≡ b → cond (not b) (1 + position_or_len (λ w. eqb v w) vs) 0 < suc (length vs)
        → (position_or_len (λ w. eqb v w) vs < length vs → get_or vs (position_or_len (λ w. eqb v w) vs) d ≡ v)
        → get_or (w ∷ vs) (cond (not b) (1 + position_or_len (λ w. eqb v w) vs) 0) d ≡ v
    by_test true e less ih = sym (eqb-true v w e)
    by_test false e less ih =
        let same : 1 + position_or_len (λ w. eqb v w) vs ≡ suc (position_or_len (λ w. eqb v w) vs) = omega arith in
        ap (λ n. get_or (w ∷ vs) n d) same ∙ ih (omega arith)

-- The signal of a variable that is defined has its place.
signal_at : (v : ℕ) (vs : List ℕ) → list_any (λ w. eqb v w) vs ≡ true → signal_in vs v ≡ position_or_len (λ w. eqb v w) vs
signal_at v vs any =
    ap (λ b. unwrap_or (cond b (Some (position_or_len (λ w. eqb v w) vs)) None) 0) (lt-ltb (position_or_len (λ w. eqb v w) vs) (length vs) (found (λ w. eqb v w) vs any))

-- ---- gates

-- A table of signals has the bits of the variables.
pub record Follows (variables : List ℕ) (bits : ℕ → Bool) (t : ℕ → Bool) : Type 0 where
  pub each : (v : ℕ) → list_any (λ w. eqb v w) variables ≡ true → t (signal_in variables v) ≡ bits v

-- the bit of a literal, by the bits of variables at one step
abbrev pub bit_by : (ℕ → Bool) → ℕ → Bool
bit_by bits literal = cond (eqb literal 0) false (cond (eqb literal 1) true (cond (eqb (literal % 2) 1) (not (bits (variable_of literal))) (bits (variable_of literal))))

zero_fails : (bits : ℕ → Bool) (literals : List ℕ) → has_zero literals ≡ true → list_all (bit_by bits) literals ≡ false
zero_fails bits [] zero_there = cc
zero_fails bits (l ∷ literals) zero_there = by_test (eqb l 0) refl zero_there (zero_fails bits literals)
  where
    fails : (b : Bool) → (b && false) ≡ false
    fails true = refl
    fails false = refl

    by_test : (b : Bool) → eqb l 0 ≡ b → (b || has_zero literals) ≡ true → (has_zero literals ≡ true → list_all (bit_by bits) literals ≡ false)
        → (cond b false (cond (eqb l 1) true (cond (eqb (l % 2) 1) (not (bits (variable_of l))) (bits (variable_of l)))) && list_all (bit_by bits) literals) ≡ false
    by_test true e any ih = refl
    by_test false e any ih =
        ap (λ r. cond (eqb l 1) true (cond (eqb (l % 2) 1) (not (bits (variable_of l))) (bits (variable_of l))) && r) (ih any)
        ∙ fails (cond (eqb l 1) true (cond (eqb (l % 2) 1) (not (bits (variable_of l))) (bits (variable_of l))))

-- a literal that is no constant is of a variable
variable_some : (l : ℕ) → eqb l 0 ≡ false → eqb l 1 ≡ false → eqb (l / 2) 0 ≡ false
variable_some l a b = grind (arith, nat_tests)

defined_by : (variables : List ℕ) (l : ℕ) → IsDriven variables l → eqb (variable_of l) 0 ≡ false → list_any (λ w. eqb (variable_of l) w) variables ≡ true
defined_by variables l is some = by_test (eqb (variable_of l) 0) (list_any (λ w. eqb (variable_of l) w) variables) some is
  where
    by_test : (a b : Bool) → a ≡ false → (not a && not b) ≡ false → b ≡ true
    by_test true b e f = cc
    by_test false true e f = refl
    by_test false false e f = cc

row_value : (variables : List ℕ) (bits t : ℕ → Bool) (literals : List ℕ) → Follows variables bits t → AllByRecursion (IsDriven variables) literals → has_zero literals ≡ false
    → row_agrees (map place_for (asking literals)) (map t (map (λ literal. signal_in variables (variable_of literal)) (asking literals))) ≡ list_all (bit_by bits) literals
row_value variables bits t [] follows are none = refl
row_value variables bits t (l ∷ literals) follows are none = by_tests (eqb l 0) (eqb l 1) refl refl none (row_value variables bits t literals follows are.1)
  where
    rest_of : Bool
    rest_of = row_agrees (map place_for (asking literals)) (map t (map (λ literal. signal_in variables (variable_of literal)) (asking literals)))

    place_value : (c x : Bool) → agrees_at (cond c Zero One) x ≡ cond c (not x) x
    place_value true x = refl
    place_value false x = refl

    by_tests : (a b : Bool) → eqb l 0 ≡ a → eqb l 1 ≡ b → (a || has_zero literals) ≡ false
        → (has_zero literals ≡ false → row_agrees (map place_for (asking literals)) (map t (map (λ literal. signal_in variables (variable_of literal)) (asking literals))) ≡ list_all (bit_by bits) literals)
        → row_agrees (map place_for (cond (not b) (l ∷ asking literals) (asking literals))) (map t (map (λ literal. signal_in variables (variable_of literal)) (cond (not b) (l ∷ asking literals) (asking literals))))
        ≡ (cond a false (cond b true (cond (eqb (l % 2) 1) (not (bits (variable_of l))) (bits (variable_of l)))) && list_all (bit_by bits) literals)
    by_tests true b ea eb fails ih = cc
    by_tests false true ea eb fails ih = ih fails
    by_tests false false ea eb fails ih =
        let bit : t (signal_in variables (variable_of l)) ≡ bits (variable_of l) = follows.each (variable_of l) (defined_by variables l are.0 (variable_some l ea eb)) in
        ap₂ (λ (p q : Bool). p && q) (place_value (eqb (l % 2) 1) (t (signal_in variables (variable_of l))) ∙ ap (λ x. cond (eqb (l % 2) 1) (not x) x) bit) (ih fails)

or_false : (b : Bool) → (b || false) ≡ b
or_false true = refl
or_false false = refl

-- The value of a gate is the and of the bits of its literals.
pub gate_value : (variables : List ℕ) (bits : ℕ → Bool) (t : ℕ → ℕ → Bool) (step : ℕ) (given : Bool) (literals : List ℕ) → Follows variables bits (λ s. t s step)
    → AllByRecursion (IsDriven variables) literals → driven (gate_of variables literals) given t step ≡ list_all (bit_by bits) literals
gate_value variables bits t step given literals follows are = by_test (has_zero literals) refl
  where
    by_test : (b : Bool) → has_zero literals ≡ b
        → driven (cond b (gate [] (record { on = true; rows = [] })) (gate (map (λ literal. signal_in variables (variable_of literal)) (asking literals)) (record { on = true; rows = map place_for (asking literals) ∷ [] }))) given t step
        ≡ list_all (bit_by bits) literals
    by_test true e = sym (zero_fails bits literals e)
    by_test false e = or_false _ ∙ row_value variables bits (λ s. t s step) literals follows are e

and_true : (b : Bool) → (b && true) ≡ b
and_true true = refl
and_true false = refl

pub one_value : (variables : List ℕ) (bits : ℕ → Bool) (t : ℕ → ℕ → Bool) (step : ℕ) (given : Bool) (l : ℕ) → Follows variables bits (λ s. t s step)
    → IsDriven variables l → driven (gate_of variables (l ∷ [])) given t step ≡ bit_by bits l
one_value variables bits t step given l follows is = gate_value variables bits t step given (l ∷ []) follows (is, tt) ∙ and_true (bit_by bits l)

pub and_value : (variables : List ℕ) (bits : ℕ → Bool) (t : ℕ → ℕ → Bool) (step : ℕ) (given : Bool) (l r : ℕ) → Follows variables bits (λ s. t s step)
    → IsDriven variables l → IsDriven variables r → driven (gate_of variables (l ∷ r ∷ [])) given t step ≡ (bit_by bits l && bit_by bits r)
and_value variables bits t step given l r follows is_l is_r =
    gate_value variables bits t step given (l ∷ r ∷ []) follows (is_l, (is_r, tt)) ∙ ap (λ b. bit_by bits l && b) (and_true (bit_by bits r))

-- ---- the circuit's table of a trace of the statements

-- What is needed of the statements: each literal that is used is of a variable that is defined, or a constant.
pub record AreDriven (s : Sections) : Type 0 where
  pub nexts : AllByRecursion (λ l. IsDriven (variables_of s) l.next) s.latches
  pub outputs : AllByRecursion (IsDriven (variables_of s)) s.outputs
  pub lefts : AllByRecursion (λ a. IsDriven (variables_of s) a.left) s.ands
  pub rights : AllByRecursion (λ a. IsDriven (variables_of s) a.right) s.ands

-- The bits of all signals at a step, by the bits of the variables.
abbrev pub bits_of : Sections → (ℕ → Bool) → List Bool
bits_of s bits =
    (map (λ literal. bits (variable_of literal)) s.inputs ++ map (λ l. bits (variable_of l.literal)) s.latches)
    ++ ((map (λ a. bits (variable_of a.literal)) s.ands ++ map (bit_by bits) (made_nexts s.latches)) ++ map (bit_by bits) s.outputs)

abbrev pub table_of : Sections → (ℕ → ℕ → Bool) → ℕ → ℕ → Bool
table_of s bits k step = slice_index_or (bits_of s (λ v. bits v step)) k false

map-map : {A B C : Type 0} (f : B → C) (g : A → B) (xs : List A) → map f (map g xs) ≡ map (λ x. f (g x)) xs
map-map f g [] = refl
map-map f g (x ∷ xs) = ap (λ ys. f (g x) ∷ ys) (map-map f g xs)

-- the variables' bits come first
bits_first : (s : Sections) (bits : ℕ → Bool)
    → bits_of s bits ≡ map bits (variables_of s) ++ (map (bit_by bits) (made_nexts s.latches) ++ map (bit_by bits) s.outputs)
bits_first s bits =
    let i : List Bool = map (λ literal. bits (variable_of literal)) s.inputs in
    let l : List Bool = map (λ (l : LatchLine). bits (variable_of l.literal)) s.latches in
    let a : List Bool = map (λ (a : AndLine). bits (variable_of a.literal)) s.ands in
    let m : List Bool = map (bit_by bits) (made_nexts s.latches) in
    let o : List Bool = map (bit_by bits) s.outputs in
    let vars : map bits (variables_of s) ≡ (map (λ literal. bits (variable_of literal)) s.inputs ++ map (λ (l : LatchLine). bits (variable_of l.literal)) s.latches) ++ map (λ (a : AndLine). bits (variable_of a.literal)) s.ands =
    map-append bits (map variable_of s.inputs ++ map (λ (l : LatchLine). variable_of l.literal) s.latches) (map (λ (a : AndLine). variable_of a.literal) s.ands)
    ∙ ap₂ (λ (p q : List Bool). p ++ q) (map-append bits (map variable_of s.inputs) (map (λ (l : LatchLine). variable_of l.literal) s.latches)
    ∙ ap₂ (λ (p q : List Bool). p ++ q) (map-map bits variable_of s.inputs) (map-map bits (λ (l : LatchLine). variable_of l.literal) s.latches)) (map-map bits (λ (a : AndLine). variable_of a.literal) s.ands) in
    ap (λ xs. (map (λ literal. bits (variable_of literal)) s.inputs ++ map (λ (l : LatchLine). bits (variable_of l.literal)) s.latches) ++ xs) (append_assoc a m o)
    ∙ sym (append_assoc (map (λ literal. bits (variable_of literal)) s.inputs ++ map (λ (l : LatchLine). bits (variable_of l.literal)) s.latches) a (m ++ o))
    ∙ ap (λ xs. xs ++ (map (bit_by bits) (made_nexts s.latches) ++ map (bit_by bits) s.outputs)) (sym vars)

follows : (s : Sections) (bits : ℕ → ℕ → Bool) (step : ℕ) → Follows (variables_of s) (λ v. bits v step) (λ k. table_of s bits k step)
follows s bits step = record {
  each = λ v any.
      let vs : List ℕ = variables_of s in
      let bs : ℕ → Bool = λ w. bits w step in
      let rest : List Bool = map (bit_by (λ w. bits w step)) (made_nexts s.latches) ++ map (bit_by (λ w. bits w step)) s.outputs in
      let p : ℕ = position_or_len (λ w. eqb v w) (variables_of s) in
      let inside : position_or_len (λ w. eqb v w) (variables_of s) < length (variables_of s) = found (λ w. eqb v w) (variables_of s) any in
      let size = length-map (variables_of s) (λ w. bits w step) in
      ap (λ k. table_of s bits k step) (signal_at v (variables_of s) any)
      ∙ ap (λ xs. get_or xs (position_or_len (λ w. eqb v w) (variables_of s)) false) (bits_first s (λ w. bits w step))
      ∙ get_or_append_left (map (λ w. bits w step) (variables_of s)) (map (bit_by (λ w. bits w step)) (made_nexts s.latches) ++ map (bit_by (λ w. bits w step)) s.outputs) false (position_or_len (λ w. eqb v w) (variables_of s)) (omega (arith, inside, size))
      ∙ get_or-map (λ w. bits w step) (variables_of s) (position_or_len (λ w. eqb v w) (variables_of s)) v false inside
      ∙ ap (λ w. bits w step) (found_at v v (variables_of s) inside);
}

-- the gates that are made have the bits of the next literals
made_at : (s : Sections) (bits : ℕ → ℕ → Bool) (step j : ℕ) (x : ℕ) → slice_get (made_nexts s.latches) j ≡ Some x
    → table_of s bits (length (variables_of s) + j) step ≡ bit_by (λ v. bits v step) x
made_at s bits step j x is =
    let bs : ℕ → Bool = λ w. bits w step in
    let vs : List Bool = map (λ w. bits w step) (variables_of s) in
    let m : List Bool = map (bit_by (λ w. bits w step)) (made_nexts s.latches) in
    let o : List Bool = map (bit_by (λ w. bits w step)) s.outputs in
    let size = length-map (variables_of s) (λ w. bits w step) in
    let inside : j < length (made_nexts s.latches) = slice_get_within (made_nexts s.latches) j x is in
    let within = length-map (made_nexts s.latches) (bit_by (λ w. bits w step)) in
    let start : (length (variables_of s) + j) - length (variables_of s) ≡ j = omega arith in
    ap (λ xs. get_or xs (length (variables_of s) + j) false) (bits_first s (λ w. bits w step))
    ∙ get_or-append_right (map (λ w. bits w step) (variables_of s)) (map (bit_by (λ w. bits w step)) (made_nexts s.latches) ++ map (bit_by (λ w. bits w step)) s.outputs) (length (variables_of s)) (length (variables_of s) + j) false size (omega arith)
    ∙ ap (λ i. get_or (map (bit_by (λ w. bits w step)) (made_nexts s.latches) ++ map (bit_by (λ w. bits w step)) s.outputs) i false) start
    ∙ get_or_append_left (map (bit_by (λ w. bits w step)) (made_nexts s.latches)) (map (bit_by (λ w. bits w step)) s.outputs) false j (omega (arith, inside, within))
    ∙ get_or-map (bit_by (λ w. bits w step)) (made_nexts s.latches) j x false inside
    ∙ ap (bit_by (λ w. bits w step)) (get_or_from_slice_get (made_nexts s.latches) j x x is)

-- ---- the table is a trace

-- The bit of a signal is the one that its drive asks for.
abbrev Holds : Sections → List (List Bool) → (ℕ → ℕ → Bool) → ℕ → ℕ → Drive → Bool → Type 0
Holds s rows bits step k d b = b ≡ driven d (row_bit rows k step) (table_of s bits) step

inputs_hold : (s : Sections) (rows : List (List Bool)) (bits : ℕ → ℕ → Bool) (step k : ℕ) (xs : List ℕ)
    → ((j literal : ℕ) → slice_get xs j ≡ Some literal → bits (variable_of literal) step ≡ row_bit rows (k + j) step)
    → AllFrom (Holds s rows bits step) k (map (λ _. input) xs) (map (λ literal. bits (variable_of literal) step) xs)
inputs_hold s rows bits step k [] given = tt
inputs_hold s rows bits step k (x ∷ xs) given = (
  given 0 x refl ∙ ap (λ n. row_bit rows n step) (let e : k + 0 ≡ k = omega arith in e),
  inputs_hold s rows bits step (suc k) xs (λ j literal is. given (suc j) literal is ∙ ap (λ n. row_bit rows n step) (let e : k + suc j ≡ suc k + j = omega arith in e)),
)

latches_first : (s : Sections) (rows : List (List Bool)) (bits : ℕ → ℕ → Bool) (k made : ℕ) (xs : List LatchLine)
    → ((j : ℕ) (l : LatchLine) → slice_get xs j ≡ Some l → bits (variable_of l.literal) 0 ≡ l.reset)
    → AllFrom (Holds s rows bits 0) k (latch_drives (variables_of s) made xs) (map (λ l. bits (variable_of l.literal) 0) xs)
latches_first s rows bits k made [] resets = tt
latches_first s rows bits k made (l ∷ xs) resets =
    by_test (is_made l.next) (latches_first s rows bits (suc k) (suc made) xs (λ j x is. resets (suc j) x is)) (latches_first s rows bits (suc k) made xs (λ j x is. resets (suc j) x is))
  where
    by_test : (b : Bool) → AllFrom (Holds s rows bits 0) (suc k) (latch_drives (variables_of s) (suc made) xs) (map (λ l. bits (variable_of l.literal) 0) xs)
        → AllFrom (Holds s rows bits 0) (suc k) (latch_drives (variables_of s) made xs) (map (λ l. bits (variable_of l.literal) 0) xs)
        → AllFrom (Holds s rows bits 0) k (cond b (latch made l.reset ∷ latch_drives (variables_of s) (suc made) xs) (latch (signal_in (variables_of s) (variable_of l.next)) l.reset ∷ latch_drives (variables_of s) made xs))
        (bits (variable_of l.literal) 0 ∷ map (λ l. bits (variable_of l.literal) 0) xs)
    by_test true one other = (resets 0 l refl, one)
    by_test false one other = (resets 0 l refl, other)

-- a next literal that a signal has
pub plain_next : (bits : ℕ → Bool) (next : ℕ) → is_made next ≡ false → (eqb (variable_of next) 0 ≡ false) × (bit_by bits next ≡ bits (variable_of next))
plain_next bits next plain = by_tests (eqb (next % 2) 1) (eqb next 0) refl refl plain
  where
    even : eqb (next % 2) 1 ≡ false → eqb next 0 ≡ false → eqb next 1 ≡ false
    even a b = grind (arith, nat_tests)

    by_tests : (a b : Bool) → eqb (next % 2) 1 ≡ a → eqb next 0 ≡ b → (a || b) ≡ false
        → (eqb (variable_of next) 0 ≡ false) × (cond b false (cond (eqb next 1) true (cond a (not (bits (variable_of next))) (bits (variable_of next)))) ≡ bits (variable_of next))
    by_tests true b ea eb none = cc
    by_tests false true ea eb none = cc
    by_tests false false ea eb none = (variable_some next eb (even ea eb), ap (λ c. cond c true (bits (variable_of next))) (even ea eb))

latches_later : (s : Sections) (rows : List (List Bool)) (bits : ℕ → ℕ → Bool) (before k made : ℕ) (xs : List LatchLine)
    → AllByRecursion (λ l. IsDriven (variables_of s) l.next) xs
    → ((j : ℕ) (l : LatchLine) → slice_get xs j ≡ Some l → bits (variable_of l.literal) (suc before) ≡ bit_by (λ v. bits v before) l.next)
    → ((j x : ℕ) → slice_get (made_nexts xs) j ≡ Some x → table_of s bits (made + j) before ≡ bit_by (λ v. bits v before) x)
    → AllFrom (Holds s rows bits (suc before)) k (latch_drives (variables_of s) made xs) (map (λ l. bits (variable_of l.literal) (suc before)) xs)
latches_later s rows bits before k made [] are nexts mades = tt
latches_later s rows bits before k made (l ∷ xs) are nexts mades =
    by_test (is_made l.next) refl mades
    (λ more. latches_later s rows bits before (suc k) (suc made) xs are.1 (λ j x is. nexts (suc j) x is) more)
    (λ more. latches_later s rows bits before (suc k) made xs are.1 (λ j x is. nexts (suc j) x is) more)
  where
    Mades : ℕ → List ℕ → Type 0
    Mades from ns = (j x : ℕ) → slice_get ns j ≡ Some x → table_of s bits (from + j) before ≡ bit_by (λ v. bits v before) x

    by_test : (b : Bool) → is_made l.next ≡ b
        → ((j x : ℕ) → slice_get (cond b (l.next ∷ made_nexts xs) (made_nexts xs)) j ≡ Some x → table_of s bits (made + j) before ≡ bit_by (λ v. bits v before) x)
        → (((j x : ℕ) → slice_get (made_nexts xs) j ≡ Some x → table_of s bits (suc made + j) before ≡ bit_by (λ v. bits v before) x)
        → AllFrom (Holds s rows bits (suc before)) (suc k) (latch_drives (variables_of s) (suc made) xs) (map (λ l. bits (variable_of l.literal) (suc before)) xs))
        → (((j x : ℕ) → slice_get (made_nexts xs) j ≡ Some x → table_of s bits (made + j) before ≡ bit_by (λ v. bits v before) x)
        → AllFrom (Holds s rows bits (suc before)) (suc k) (latch_drives (variables_of s) made xs) (map (λ l. bits (variable_of l.literal) (suc before)) xs))
        → AllFrom (Holds s rows bits (suc before)) k (cond b (latch made l.reset ∷ latch_drives (variables_of s) (suc made) xs) (latch (signal_in (variables_of s) (variable_of l.next)) l.reset ∷ latch_drives (variables_of s) made xs))
        (bits (variable_of l.literal) (suc before) ∷ map (λ l. bits (variable_of l.literal) (suc before)) xs)
    by_test true e ms one other = (
      nexts 0 l refl ∙ sym (ms 0 l.next refl) ∙ ap (λ n. table_of s bits n before) (let z : made + 0 ≡ made = omega arith in z),
      one (λ j x is. ap (λ n. table_of s bits n before) (let z : suc made + j ≡ made + suc j = omega arith in z) ∙ ms (suc j) x is),
    )
    by_test false e ms one other =
        let plain = plain_next (λ v. bits v before) l.next e in (
          nexts 0 l refl ∙ plain.1 ∙ sym ((follows s bits before).each (variable_of l.next) (defined_by (variables_of s) l.next are.0 plain.0)),
          other ms,
        )

gates_hold : {X : Type 0} (s : Sections) (rows : List (List Bool)) (bits : ℕ → ℕ → Bool) (step k : ℕ) (literals : X → List ℕ) (value : X → Bool) (xs : List X)
    → ((j : ℕ) (x : X) → slice_get xs j ≡ Some x → (given : Bool) → value x ≡ driven (gate_of (variables_of s) (literals x)) given (table_of s bits) step)
    → AllFrom (Holds s rows bits step) k (map (λ x. gate_of (variables_of s) (literals x)) xs) (map value xs)
gates_hold s rows bits step k literals value [] each = tt
gates_hold s rows bits step k literals value (x ∷ xs) each =
    (each 0 x refl (row_bit rows k step), gates_hold s rows bits step (suc k) literals value xs (λ j y is given. each (suc j) y is given))

pub all_get : {X : Type 0} (P : X → Type 0) (xs : List X) (j : ℕ) (x : X) → AllByRecursion P xs → slice_get xs j ≡ Some x → P x
all_get P [] j x all is = absurd (let n : ◌≡◌ None (Some x) = is in cc)
all_get P (y ∷ xs) zero x all is = let same : y ≡ x = cc in subst P same all.0
all_get P (y ∷ xs) (suc j) x all is = all_get P xs j x all.1 is

latches_hold : (s : Sections) (body : List Statement) (rows : List (List Bool)) (bits : ℕ → ℕ → Bool) (step k : ℕ) → s ≡ sections_in body → IsAigerTrace body rows bits → AreDriven s
    → step < length rows → AllFrom (Holds s rows bits step) k (latch_drives (variables_of s) (length (variables_of s)) s.latches) (map (λ l. bits (variable_of l.literal) step) s.latches)
latches_hold s body rows bits zero k is trace driven_all inside =
    latches_first s rows bits k (length (variables_of s)) s.latches (λ j l found. trace.resets j l inside (ap (λ (x : Sections). slice_get x.latches j) (sym is) ∙ found))
latches_hold s body rows bits (suc before) k is trace driven_all inside =
    latches_later s rows bits before k (length (variables_of s)) s.latches driven_all.nexts
    (λ j l found. trace.nexts j before l inside (ap (λ (x : Sections). slice_get x.latches j) (sym is) ∙ found)) (λ j x found. made_at s bits before j x found)

pub made_driven : (vs : List ℕ) (latches : List LatchLine) → AllByRecursion (λ l. IsDriven vs l.next) latches → AllByRecursion (IsDriven vs) (made_nexts latches)
made_driven vs [] are = tt
made_driven vs (l ∷ latches) are = by_test (is_made l.next) (made_driven vs latches are.1)
  where
    by_test : (b : Bool) → AllByRecursion (IsDriven vs) (made_nexts latches) → AllByRecursion (IsDriven vs) (cond b (l.next ∷ made_nexts latches) (made_nexts latches))
    by_test true ih = (are.0, ih)
    by_test false ih = ih

whole_holds : (s : Sections) (body : List Statement) (rows : List (List Bool)) (bits : ℕ → ℕ → Bool) (step : ℕ) → s ≡ sections_in body → IsAigerTrace body rows bits → AreDriven s
    → step < length rows → AllFrom (Holds s rows bits step) 0 (drives_of s) (bits_of s (λ v. bits v step))
whole_holds s body rows bits step is trace driven_all inside =
    let vs : List ℕ = variables_of s in
    let P : ℕ → Drive → Bool → Type 0 = Holds s rows bits step in
    let f = follows s bits step in
    let di : List Drive = map (λ (_ : ℕ). input) s.inputs in
    let dl : List Drive = latch_drives (variables_of s) (length (variables_of s)) s.latches in
    let da : List Drive = map (λ (a : AndLine). gate_of (variables_of s) (a.left ∷ a.right ∷ [])) s.ands in
    let dm : List Drive = map (λ (next : ℕ). gate_of (variables_of s) (next ∷ [])) (made_nexts s.latches) in
    let do_ : List Drive = map (λ (literal : ℕ). gate_of (variables_of s) (literal ∷ [])) s.outputs in
    let hi = inputs_hold s rows bits step 0 s.inputs (λ j literal found. trace.inputs j literal step inside (ap (λ (x : Sections). slice_get x.inputs j) (sym is) ∙ found) ∙ ap (λ n. row_bit rows n step) (let e : j ≡ 0 + j = omega arith in e)) in
    let hl = latches_hold s body rows bits step (length di) is trace driven_all inside in
    let ha = gates_hold s rows bits step (length (di ++ dl)) (λ (a : AndLine). a.left ∷ a.right ∷ []) (λ (a : AndLine). bits (variable_of a.literal) step) s.ands
    (λ j a found given. trace.ands j step a inside (ap (λ (x : Sections). slice_get x.ands j) (sym is) ∙ found)
    ∙ sym (and_value (variables_of s) (λ v. bits v step) (table_of s bits) step given a.left a.right f (all_get (λ a. IsDriven (variables_of s) a.left) s.ands j a driven_all.lefts found) (all_get (λ a. IsDriven (variables_of s) a.right) s.ands j a driven_all.rights found))) in
    let hm = gates_hold s rows bits step (length (di ++ dl) + length da) (λ (next : ℕ). next ∷ []) (bit_by (λ v. bits v step)) (made_nexts s.latches)
    (λ j x found given. sym (one_value (variables_of s) (λ v. bits v step) (table_of s bits) step given x f (all_get (IsDriven (variables_of s)) (made_nexts s.latches) j x (made_driven (variables_of s) s.latches driven_all.nexts) found))) in
    let ho = gates_hold s rows bits step (length (di ++ dl) + length (da ++ dm)) (λ (literal : ℕ). literal ∷ []) (bit_by (λ v. bits v step)) s.outputs
    (λ j x found given. sym (one_value (variables_of s) (λ v. bits v step) (table_of s bits) step given x f (all_get (IsDriven (variables_of s)) s.outputs j x driven_all.outputs found))) in
    all_append P 0 (length (di ++ dl)) (di ++ dl) ((da ++ dm) ++ do_) (map (λ literal. bits (variable_of literal) step) s.inputs ++ map (λ (l : LatchLine). bits (variable_of l.literal) step) s.latches) ((map (λ (a : AndLine). bits (variable_of a.literal) step) s.ands ++ map (bit_by (λ v. bits v step)) (made_nexts s.latches)) ++ map (bit_by (λ v. bits v step)) s.outputs)
    (omega arith)
    (all_append P 0 (length di) di dl (map (λ literal. bits (variable_of literal) step) s.inputs) (map (λ (l : LatchLine). bits (variable_of l.literal) step) s.latches) (omega arith) hi hl)
    (all_append P (length (di ++ dl)) (length (di ++ dl) + length (da ++ dm)) (da ++ dm) do_ (map (λ (a : AndLine). bits (variable_of a.literal) step) s.ands ++ map (bit_by (λ v. bits v step)) (made_nexts s.latches)) (map (bit_by (λ v. bits v step)) s.outputs)
    refl
    (all_append P (length (di ++ dl)) (length (di ++ dl) + length da) da dm (map (λ (a : AndLine). bits (variable_of a.literal) step) s.ands) (map (bit_by (λ v. bits v step)) (made_nexts s.latches)) refl ha hm)
    ho)

-- past the signals every bit is 0
past_end : (s : Sections) (body : List Statement) (rows : List (List Bool)) (bits : ℕ → ℕ → Bool) (k step : ℕ) → s ≡ sections_in body → IsAigerTrace body rows bits → AreDriven s
    → step < length rows → length (drives_of s) ≤ k → false ≡ driven (latch k false) (row_bit rows k step) (table_of s bits) step
past_end s body rows bits k zero is trace driven_all inside past = refl
past_end s body rows bits k (suc before) is trace driven_all inside past =
    let same = all_length (Holds s rows bits before) 0 (drives_of s) (bits_of s (λ v. bits v before)) (whole_holds s body rows bits before is trace driven_all (omega arith)) in
    sym (get_or_past (bits_of s (λ v. bits v before)) k false (omega (arith, same, past)))

-- The table is a trace of every circuit with these drives.
pub table_traces : (c : Plain) (s : Sections) (body : List Statement) (rows : List (List Bool)) (bits : ℕ → ℕ → Bool) → c.drives ≡ drives_of s → s ≡ sections_in body
    → IsAigerTrace body rows bits → AreDriven s → IsTrace c rows (table_of s bits)
table_traces c s body rows bits drives is trace driven_all k step inside =
    all_at (Holds s rows bits step) 0 k k (drives_of s) (bits_of s (λ v. bits v step)) (latch k false) false (omega arith) (whole_holds s body rows bits step is trace driven_all inside)
    (λ past. past_end s body rows bits k step is trace driven_all inside (omega (arith, past)))
    ∙ ap (λ ds. driven (get_or ds k (latch k false)) (row_bit rows k step) (table_of s bits) step) (sym drives)

-- ---- the outputs

range_bits : (a : ℕ) (xs front : List Bool) → length front ≡ a → map (λ k. get_or (front ++ xs) k false) (range_with_len a (length xs)) ≡ xs
range_bits a [] front same = refl
range_bits a (x ∷ xs) front same =
    let here : get_or (front ++ x ∷ xs) a false ≡ x = get_or-append_right front (x ∷ xs) a a false same (omega arith) ∙ ap (λ i. get_or (x ∷ xs) i false) (let e : a - a ≡ 0 = omega arith in e) in
    let more : front ++ x ∷ xs ≡ (front ++ x ∷ []) ++ xs = sym (append_assoc front (x ∷ []) xs) in
    ap₂ (λ (y : Bool) (ys : List Bool). y ∷ ys) here
    (ap (λ zs. map (λ k. get_or zs k false) (range_with_len (a + 1) (length xs))) more ∙ range_bits (a + 1) xs (front ++ x ∷ []) (length-append front (x ∷ []) ∙ ap (λ n. n + 1) same))

-- The bits of the outputs in the table are those of the output literals.
pub table_shown : (s : Sections) (bits : ℕ → ℕ → Bool) (step : ℕ)
    → map (λ k. table_of s bits k step) (range_with_len (length (variables_of s) + length (made_nexts s.latches)) (length s.outputs)) ≡ map (bit_by (λ v. bits v step)) s.outputs
table_shown s bits step =
    let o : List Bool = map (bit_by (λ v. bits v step)) s.outputs in
    let m : List Bool = map (bit_by (λ v. bits v step)) (made_nexts s.latches) in
    let v : List Bool = map (λ w. bits w step) (variables_of s) in
    let whole : bits_of s (λ v. bits v step) ≡ (v ++ m) ++ o = bits_first s (λ w. bits w step) ∙ sym (append_assoc v m o) in
    let size : length o ≡ length s.outputs = length-map s.outputs (bit_by (λ v. bits v step)) in
    let front : length (v ++ m) ≡ length (variables_of s) + length (made_nexts s.latches) =
    length-append v m ∙ ap₂ (λ (p q : ℕ). p + q) (length-map (variables_of s) (λ w. bits w step)) (length-map (made_nexts s.latches) (bit_by (λ v. bits v step))) in
    ap (λ n. map (λ k. table_of s bits k step) (range_with_len (length (variables_of s) + length (made_nexts s.latches)) n)) (sym size)
    ∙ ap (λ bs. map (λ k. get_or bs k false) (range_with_len (length (variables_of s) + length (made_nexts s.latches)) (length o))) whole
    ∙ range_bits (length (variables_of s) + length (made_nexts s.latches)) o (v ++ m) front

map_agree : (t u : ℕ → ℕ → Bool) (step : ℕ) (ks : List ℕ) → ((k : ℕ) → t k step ≡ u k step) → map (λ k. t k step) ks ≡ map (λ k. u k step) ks
map_agree t u step [] same = refl
map_agree t u step (k ∷ ks) same = ap₂ (λ (y : Bool) (ys : List Bool). y ∷ ys) (same k) (map_agree t u step ks same)

-- In every trace of the statements the output literals have the bits of the outputs in the circuit's trace.
pub shows_same : (c : Plain) (s : Sections) (body : List Statement) → HasOneTrace c → c.drives ≡ drives_of s
    → c.outputs ≡ range_with_len (length (variables_of s) + length (made_nexts s.latches)) (length s.outputs) → s ≡ sections_in body → AreDriven s
    → (rows : List (List Bool)) (bits t : ℕ → ℕ → Bool) → IsAigerTrace body rows bits → IsTrace c rows t → (step : ℕ) → step < length rows → shown c t step ≡ outputs_shown body bits step
shows_same c s body one drives outputs is driven_all rows bits t trace traced step inside =
    let table : IsTrace c rows (table_of s bits) = table_traces c s body rows bits drives is trace driven_all in
    map_agree t (table_of s bits) step c.outputs (λ k. one.one rows t (table_of s bits) traced table k step inside)
    ∙ ap (map (λ k. table_of s bits k step)) outputs ∙ table_shown s bits step ∙ ap (λ (x : Sections). map (bit_by (λ v. bits v step)) x.outputs) is
