-- A trace of the circuit gives a trace of the statements: each variable has the bits of its signal.
use Rattle.std.proofs.Common.{◌≡◌, ℕ, zero, suc, ◌+◌, ◌-◌, ◌<◌, ◌≤◌, ◌⊎◌, Bool, true, false, not, cond, eqb, List, [], ◌∷◌, ◌++◌, map, length, get_or, slice_get, Option, None, Some, inl, inr, refl, sym, ◌∙◌, ap, subst, arith, length-append}
use Rattle.std.specs.Prelude.{unwrap_or}
use Rattle.std.specs.List.{position_or_len, range_with_len}
use Rattle.std.proofs.lemmas.Bool.{eq-eqb, lt-ltb}
use Rattle.std.proofs.lemmas.List.{length-map, get_or_append_left, get_or-append_right, get_or-map}
use Rattle.std.proofs.lemmas.Option.{get_or_from_slice_get, slice_get_within}
use Rattle.tm_circuit.specs.Plain.{Plain, Drive, input, latch}
use Rattle.tm_circuit.specs.Trace.{HasOneTrace, row_bit, driven}
use Rattle.aiger_read.specs.declared.statement.Statement.{Statement}
use Rattle.aiger_read.specs.declared.statement.LatchLine.{LatchLine}
use Rattle.aiger_read.specs.declared.statement.AndLine.{AndLine}
use Rattle.aiger_read.specs.Statements.{variable_of}
use Rattle.aiger_read.specs.Circuit.{Sections, sections_in, variables_of, signal_in, gate_of, is_made, latch_drives, made_nexts, gate_drives}
use Rattle.aiger_read.specs.Trace.{IsAigerTrace, ShowsLiterals}
use Rattle.aiger_read.specs.Making.{times_in}
use Rattle.aiger_read.proofs.DriveLemmas.{drives_of, latches-count, variables-count}
use Rattle.aiger_read.proofs.TraceLemmas.{Follows, IsDriven, AreDriven, bit_by, plain_next, all_get, made_driven, one_value, and_value, shows_same}

-- ---- the signal of a variable that is defined once

stands : (v k d : ℕ) (vs : List ℕ) → k < length vs → get_or vs k d ≡ v → 1 ≤ times_in v vs
stands v k d [] inside is = absurd (omega arith)
stands v zero d (w ∷ vs) inside is = let one : ◌≡◌ {A = ℕ} (cond (eqb v w) 1 0) 1 = ap (λ b. cond b 1 0) (eq-eqb v w (sym is)) in omega (arith, one)
stands v (suc k) d (w ∷ vs) inside is = let ih = stands v k d vs (omega arith) is in omega (arith, ih)

place_of : (v k d : ℕ) (vs : List ℕ) → times_in v vs ≤ 1 → k < length vs → get_or vs k d ≡ v → position_or_len (λ w. eqb v w) vs ≡ k
place_of v k d [] once inside is = absurd (omega arith)
place_of v zero d (w ∷ vs) once inside is = ap (λ b. cond (not b) (1 + position_or_len (λ w. eqb v w) vs) 0) (eq-eqb v w (sym is))
place_of v (suc k) d (w ∷ vs) once inside is = by_test (eqb v w) once (λ rest. place_of v k d vs rest (omega arith) is)
  where
    by_test : (b : Bool) → cond b 1 0 + times_in v vs ≤ 1 → (times_in v vs ≤ 1 → position_or_len (λ w. eqb v w) vs ≡ k)
        → cond (not b) (1 + position_or_len (λ w. eqb v w) vs) 0 ≡ suc k
    by_test true few ih = let there = stands v k d vs (omega arith) is in absurd (omega (arith, few, there))
    by_test false few ih = let same = ih (omega (arith, few)) in omega (arith, same)

-- A variable that stands once at a place has the signal of that place.
signal_of : (vs : List ℕ) (v k d : ℕ) → times_in v vs ≤ 1 → k < length vs → get_or vs k d ≡ v → signal_in vs v ≡ k
signal_of vs v k d once inside is =
    let place : position_or_len (λ w. eqb v w) vs ≡ k = place_of v k d vs once inside is in
    ap (λ b. unwrap_or (cond b (Some (position_or_len (λ w. eqb v w) vs)) None) 0) (lt-ltb (position_or_len (λ w. eqb v w) vs) (length vs) (omega (arith, place))) ∙ place

-- ---- where drives stand

latch_at : (vs : List ℕ) (made k : ℕ) (latches : List LatchLine) (l : LatchLine) (d : Drive) → slice_get latches k ≡ Some l
    → (next : ℕ) × (get_or (latch_drives vs made latches) k d ≡ latch next l.reset)
    × (((is_made l.next ≡ false) × (next ≡ signal_in vs (variable_of l.next))) ⊎ ((j : ℕ) × (next ≡ made + j) × (slice_get (made_nexts latches) j ≡ Some l.next)))
latch_at vs made k [] l d there = absurd (let n : ◌≡◌ {A = Option LatchLine} None (Some l) = there in cc)
latch_at vs made zero (x ∷ xs) l d there =
    let same : x ≡ l = cc in
    subst (λ (y : LatchLine). (next : ℕ) × (get_or (latch_drives vs made (x ∷ xs)) 0 d ≡ latch next y.reset)
    × (((is_made y.next ≡ false) × (next ≡ signal_in vs (variable_of y.next))) ⊎ ((j : ℕ) × (next ≡ made + j) × (slice_get (made_nexts (x ∷ xs)) j ≡ Some y.next)))) same
    (by_test (is_made x.next) refl)
  where
    by_test : (b : Bool) → is_made x.next ≡ b
        → (next : ℕ) × (get_or (cond b (latch made x.reset ∷ latch_drives vs (suc made) xs) (latch (signal_in vs (variable_of x.next)) x.reset ∷ latch_drives vs made xs)) 0 d ≡ latch next x.reset)
        × (((is_made x.next ≡ false) × (next ≡ signal_in vs (variable_of x.next)))
        ⊎ ((j : ℕ) × (next ≡ made + j) × (slice_get (cond b (x.next ∷ made_nexts xs) (made_nexts xs)) j ≡ Some x.next)))
    by_test true e = (made, refl, inr (0, omega arith, refl))
    by_test false e = (signal_in vs (variable_of x.next), refl, inl (e, refl))
latch_at vs made (suc k) (x ∷ xs) l d there = by_test (is_made x.next) (latch_at vs (suc made) k xs l d there) (latch_at vs made k xs l d there)
  where
    by_test : (b : Bool)
        → (next : ℕ) × (get_or (latch_drives vs (suc made) xs) k d ≡ latch next l.reset)
        × (((is_made l.next ≡ false) × (next ≡ signal_in vs (variable_of l.next))) ⊎ ((j : ℕ) × (next ≡ suc made + j) × (slice_get (made_nexts xs) j ≡ Some l.next)))
        → (next : ℕ) × (get_or (latch_drives vs made xs) k d ≡ latch next l.reset)
        × (((is_made l.next ≡ false) × (next ≡ signal_in vs (variable_of l.next))) ⊎ ((j : ℕ) × (next ≡ made + j) × (slice_get (made_nexts xs) j ≡ Some l.next)))
        → (next : ℕ) × (get_or (cond b (latch made x.reset ∷ latch_drives vs (suc made) xs) (latch (signal_in vs (variable_of x.next)) x.reset ∷ latch_drives vs made xs)) (suc k) d ≡ latch next l.reset)
        × (((is_made l.next ≡ false) × (next ≡ signal_in vs (variable_of l.next)))
        ⊎ ((j : ℕ) × (next ≡ made + j) × (slice_get (cond b (x.next ∷ made_nexts xs) (made_nexts xs)) j ≡ Some l.next)))
    by_test true (next, at, inl plain) other = (next, at, inl plain)
    by_test true (next, at, inr (j, is, found)) other = (next, at, inr (suc j, omega (arith, is), found))
    by_test false one other = other

input_drive : (s : Sections) (k : ℕ) (d : Drive) → k < length s.inputs → get_or (drives_of s) k d ≡ input
input_drive s k d inside =
    let di : List Drive = map (λ (_ : ℕ). input) s.inputs in
    let dl : List Drive = latch_drives (variables_of s) (length (variables_of s)) s.latches in
    let i = length-map s.inputs (λ (_ : ℕ). input) in
    let both = length-append di dl in
    get_or_append_left (di ++ dl) (gate_drives (variables_of s) s) d k (omega (arith, i, both, inside))
    ∙ get_or_append_left di dl d k (omega (arith, i, inside)) ∙ get_or-map (λ (_ : ℕ). input) s.inputs k 0 d inside

latch_drive : (s : Sections) (k : ℕ) (d : Drive) → k < length s.latches
    → get_or (drives_of s) (length s.inputs + k) d ≡ get_or (latch_drives (variables_of s) (length (variables_of s)) s.latches) k d
latch_drive s k d inside =
    let di : List Drive = map (λ (_ : ℕ). input) s.inputs in
    let dl : List Drive = latch_drives (variables_of s) (length (variables_of s)) s.latches in
    let i : length di ≡ length s.inputs = length-map s.inputs (λ (_ : ℕ). input) in
    let l = latches-count (variables_of s) (length (variables_of s)) s.latches in
    let both = length-append di dl in
    let start : (length s.inputs + k) - length s.inputs ≡ k = omega arith in
    get_or_append_left (di ++ dl) (gate_drives (variables_of s) s) d (length s.inputs + k) (omega (arith, i, l, both, inside))
    ∙ get_or-append_right di dl (length s.inputs) (length s.inputs + k) d i (omega arith) ∙ ap (λ n. get_or dl n d) start

-- the gates stand behind the inputs and the latches
gate_drive : (s : Sections) (k : ℕ) (d : Drive) → get_or (drives_of s) ((length s.inputs + length s.latches) + k) d ≡ get_or (gate_drives (variables_of s) s) k d
gate_drive s k d =
    let di : List Drive = map (λ (_ : ℕ). input) s.inputs in
    let dl : List Drive = latch_drives (variables_of s) (length (variables_of s)) s.latches in
    let i : length di ≡ length s.inputs = length-map s.inputs (λ (_ : ℕ). input) in
    let l = latches-count (variables_of s) (length (variables_of s)) s.latches in
    let both : length (di ++ dl) ≡ length s.inputs + length s.latches = let e = length-append di dl in omega (arith, e, i, l) in
    let start : ((length s.inputs + length s.latches) + k) - (length s.inputs + length s.latches) ≡ k = omega arith in
    get_or-append_right (di ++ dl) (gate_drives (variables_of s) s) (length s.inputs + length s.latches) ((length s.inputs + length s.latches) + k) d both (omega arith)
    ∙ ap (λ n. get_or (gate_drives (variables_of s) s) n d) start

and_drive : (s : Sections) (k : ℕ) (a : AndLine) (d : Drive) → slice_get s.ands k ≡ Some a
    → get_or (drives_of s) ((length s.inputs + length s.latches) + k) d ≡ gate_of (variables_of s) (a.left ∷ a.right ∷ [])
and_drive s k a d there =
    let of_and : AndLine → Drive = λ (x : AndLine). gate_of (variables_of s) (x.left ∷ x.right ∷ []) in
    let da : List Drive = map (λ (x : AndLine). gate_of (variables_of s) (x.left ∷ x.right ∷ [])) s.ands in
    let dm : List Drive = map (λ (next : ℕ). gate_of (variables_of s) (next ∷ [])) (made_nexts s.latches) in
    let do_ : List Drive = map (λ (literal : ℕ). gate_of (variables_of s) (literal ∷ [])) s.outputs in
    let inside : k < length s.ands = slice_get_within s.ands k a there in
    let n = length-map s.ands of_and in
    let both = length-append da dm in
    gate_drive s k d ∙ get_or_append_left (da ++ dm) do_ d k (omega (arith, n, both, inside)) ∙ get_or_append_left da dm d k (omega (arith, n, inside))
    ∙ get_or-map of_and s.ands k a d inside ∙ ap of_and (get_or_from_slice_get s.ands k a a there)

made_drive : (s : Sections) (j x : ℕ) (d : Drive) → slice_get (made_nexts s.latches) j ≡ Some x
    → get_or (drives_of s) (length (variables_of s) + j) d ≡ gate_of (variables_of s) (x ∷ [])
made_drive s j x d there =
    let of_next : ℕ → Drive = λ (next : ℕ). gate_of (variables_of s) (next ∷ []) in
    let da : List Drive = map (λ (x : AndLine). gate_of (variables_of s) (x.left ∷ x.right ∷ [])) s.ands in
    let dm : List Drive = map (λ (next : ℕ). gate_of (variables_of s) (next ∷ [])) (made_nexts s.latches) in
    let do_ : List Drive = map (λ (literal : ℕ). gate_of (variables_of s) (literal ∷ [])) s.outputs in
    let inside : j < length (made_nexts s.latches) = slice_get_within (made_nexts s.latches) j x there in
    let n : length da ≡ length s.ands = length-map s.ands (λ (x : AndLine). gate_of (variables_of s) (x.left ∷ x.right ∷ [])) in
    let m = length-map (made_nexts s.latches) of_next in
    let both = length-append da dm in
    let all = variables-count s in
    let place : length (variables_of s) + j ≡ (length s.inputs + length s.latches) + (length s.ands + j) = omega (arith, all) in
    let start : (length s.ands + j) - length s.ands ≡ j = omega arith in
    ap (λ n. get_or (drives_of s) n d) place ∙ gate_drive s (length s.ands + j) d
    ∙ get_or_append_left (da ++ dm) do_ d (length s.ands + j) (omega (arith, n, m, both, inside))
    ∙ get_or-append_right da dm (length s.ands) (length s.ands + j) d n (omega arith) ∙ ap (λ i. get_or dm i d) start
    ∙ get_or-map of_next (made_nexts s.latches) j x d inside ∙ ap of_next (get_or_from_slice_get (made_nexts s.latches) j x x there)

-- ---- where variables stand

input_variable : (s : Sections) (k literal : ℕ) → slice_get s.inputs k ≡ Some literal → get_or (variables_of s) k 0 ≡ variable_of literal
input_variable s k literal there =
    let vi : List ℕ = map variable_of s.inputs in
    let vl : List ℕ = map (λ (l : LatchLine). variable_of l.literal) s.latches in
    let va : List ℕ = map (λ (a : AndLine). variable_of a.literal) s.ands in
    let inside : k < length s.inputs = slice_get_within s.inputs k literal there in
    let i = length-map s.inputs variable_of in
    let both = length-append vi vl in
    get_or_append_left (vi ++ vl) va 0 k (omega (arith, i, both, inside)) ∙ get_or_append_left vi vl 0 k (omega (arith, i, inside))
    ∙ get_or-map variable_of s.inputs k literal 0 inside ∙ ap variable_of (get_or_from_slice_get s.inputs k literal literal there)

latch_variable : (s : Sections) (k : ℕ) (l : LatchLine) → slice_get s.latches k ≡ Some l → get_or (variables_of s) (length s.inputs + k) 0 ≡ variable_of l.literal
latch_variable s k l there =
    let of_latch : LatchLine → ℕ = λ (l : LatchLine). variable_of l.literal in
    let vi : List ℕ = map variable_of s.inputs in
    let vl : List ℕ = map (λ (l : LatchLine). variable_of l.literal) s.latches in
    let va : List ℕ = map (λ (a : AndLine). variable_of a.literal) s.ands in
    let inside : k < length s.latches = slice_get_within s.latches k l there in
    let i : length vi ≡ length s.inputs = length-map s.inputs variable_of in
    let n = length-map s.latches of_latch in
    let both = length-append vi vl in
    let start : (length s.inputs + k) - length s.inputs ≡ k = omega arith in
    get_or_append_left (vi ++ vl) va 0 (length s.inputs + k) (omega (arith, i, n, both, inside))
    ∙ get_or-append_right vi vl (length s.inputs) (length s.inputs + k) 0 i (omega arith) ∙ ap (λ i. get_or vl i 0) start
    ∙ get_or-map of_latch s.latches k l 0 inside ∙ ap of_latch (get_or_from_slice_get s.latches k l l there)

and_variable : (s : Sections) (k : ℕ) (a : AndLine) → slice_get s.ands k ≡ Some a → get_or (variables_of s) ((length s.inputs + length s.latches) + k) 0 ≡ variable_of a.literal
and_variable s k a there =
    let of_and : AndLine → ℕ = λ (a : AndLine). variable_of a.literal in
    let vi : List ℕ = map variable_of s.inputs in
    let vl : List ℕ = map (λ (l : LatchLine). variable_of l.literal) s.latches in
    let va : List ℕ = map (λ (a : AndLine). variable_of a.literal) s.ands in
    let inside : k < length s.ands = slice_get_within s.ands k a there in
    let i = length-map s.inputs variable_of in
    let n = length-map s.latches (λ (l : LatchLine). variable_of l.literal) in
    let both : length (vi ++ vl) ≡ length s.inputs + length s.latches = let e = length-append vi vl in omega (arith, e, i, n) in
    let start : ((length s.inputs + length s.latches) + k) - (length s.inputs + length s.latches) ≡ k = omega arith in
    get_or-append_right (vi ++ vl) va (length s.inputs + length s.latches) ((length s.inputs + length s.latches) + k) 0 both (omega arith) ∙ ap (λ i. get_or va i 0) start
    ∙ get_or-map of_and s.ands k a 0 inside ∙ ap of_and (get_or_from_slice_get s.ands k a a there)

-- ---- the trace of the statements

-- the bits of the variables, by those of the signals
abbrev variable_bits : Sections → (ℕ → ℕ → Bool) → ℕ → ℕ → Bool
variable_bits s t v step = t (signal_in (variables_of s) v) step

follows : (s : Sections) (t : ℕ → ℕ → Bool) (step : ℕ) → Follows (variables_of s) (λ v. variable_bits s t v step) (λ k. t k step)
follows s t step = record { each = λ v any. refl }

-- the bit of a signal, by its drive
abbrev Obeys : Sections → List (List Bool) → (ℕ → ℕ → Bool) → Type 0
Obeys s rows t = (k step : ℕ) → step < length rows → t k step ≡ driven (get_or (drives_of s) k (latch k false)) (row_bit rows k step) t step

made_bit : (s : Sections) (rows : List (List Bool)) (t : ℕ → ℕ → Bool) (step j x : ℕ) → Obeys s rows t → AreDriven s → step < length rows → slice_get (made_nexts s.latches) j ≡ Some x
    → t (length (variables_of s) + j) step ≡ bit_by (λ v. variable_bits s t v step) x
made_bit s rows t step j x obeys are inside there =
    let k : ℕ = length (variables_of s) + j in
    obeys k step inside
    ∙ ap (λ d. driven d (row_bit rows k step) t step) (made_drive s j x (latch k false) there)
    ∙ one_value (variables_of s) (λ v. variable_bits s t v step) t step (row_bit rows k step) x (follows s t step)
    (all_get (IsDriven (variables_of s)) (made_nexts s.latches) j x (made_driven (variables_of s) s.latches are.nexts) there)

next_bit : (s : Sections) (rows : List (List Bool)) (t : ℕ → ℕ → Bool) (before next : ℕ) (l : LatchLine) → Obeys s rows t → AreDriven s → before < length rows
    → ((is_made l.next ≡ false) × (next ≡ signal_in (variables_of s) (variable_of l.next))) ⊎ ((j : ℕ) × (next ≡ length (variables_of s) + j) × (slice_get (made_nexts s.latches) j ≡ Some l.next))
    → t next before ≡ bit_by (λ v. variable_bits s t v before) l.next
next_bit s rows t before next l obeys are inside (inl plain) =
    ap (λ n. t n before) plain.1 ∙ sym (plain_next (λ v. variable_bits s t v before) l.next plain.0).1
next_bit s rows t before next l obeys are inside (inr (j, is, there)) = ap (λ n. t n before) is ∙ made_bit s rows t before j l.next obeys are inside there

-- The signals' bits give a trace of the statements.
traces : (s : Sections) (body : List Statement) (rows : List (List Bool)) (t : ℕ → ℕ → Bool) → s ≡ sections_in body → ((m : ℕ) → times_in m (variables_of s) ≤ 1) → AreDriven s
    → Obeys s rows t → IsAigerTrace body rows (variable_bits s t)
traces s body rows t is once are obeys = record {
  inputs = λ k literal step inside there.
      let here : slice_get s.inputs k ≡ Some literal = ap (λ (x : Sections). slice_get x.inputs k) is ∙ there in
      let few : k < length s.inputs = slice_get_within s.inputs k literal here in
      let all = variables-count s in
      let at : signal_in (variables_of s) (variable_of literal) ≡ k = signal_of (variables_of s) (variable_of literal) k 0 (once (variable_of literal)) (omega (arith, few, all)) (input_variable s k literal here) in
      ap (λ n. t n step) at ∙ obeys k step inside ∙ ap (λ d. driven d (row_bit rows k step) t step) (input_drive s k (latch k false) few);
  ands = λ k step a inside there.
      let here : slice_get s.ands k ≡ Some a = ap (λ (x : Sections). slice_get x.ands k) is ∙ there in
      let few : k < length s.ands = slice_get_within s.ands k a here in
      let all = variables-count s in
      let n : ℕ = (length s.inputs + length s.latches) + k in
      let at : signal_in (variables_of s) (variable_of a.literal) ≡ n = signal_of (variables_of s) (variable_of a.literal) n 0 (once (variable_of a.literal)) (omega (arith, few, all)) (and_variable s k a here) in
      ap (λ m. t m step) at ∙ obeys n step inside ∙ ap (λ d. driven d (row_bit rows n step) t step) (and_drive s k a (latch n false) here)
      ∙ and_value (variables_of s) (λ v. variable_bits s t v step) t step (row_bit rows n step) a.left a.right (follows s t step)
      (all_get (λ (x : AndLine). IsDriven (variables_of s) x.left) s.ands k a are.lefts here) (all_get (λ (x : AndLine). IsDriven (variables_of s) x.right) s.ands k a are.rights here);
  resets = λ k l inside there.
      let here : slice_get s.latches k ≡ Some l = ap (λ (x : Sections). slice_get x.latches k) is ∙ there in
      let few : k < length s.latches = slice_get_within s.latches k l here in
      let all = variables-count s in
      let n : ℕ = length s.inputs + k in
      let at : signal_in (variables_of s) (variable_of l.literal) ≡ n = signal_of (variables_of s) (variable_of l.literal) n 0 (once (variable_of l.literal)) (omega (arith, few, all)) (latch_variable s k l here) in
      let found = latch_at (variables_of s) (length (variables_of s)) k s.latches l (latch n false) here in
      ap (λ m. t m 0) at ∙ obeys n 0 inside ∙ ap (λ d. driven d (row_bit rows n 0) t 0) (latch_drive s k (latch n false) few ∙ found.1);
  nexts = λ k before l inside there.
      let here : slice_get s.latches k ≡ Some l = ap (λ (x : Sections). slice_get x.latches k) is ∙ there in
      let few : k < length s.latches = slice_get_within s.latches k l here in
      let all = variables-count s in
      let n : ℕ = length s.inputs + k in
      let at : signal_in (variables_of s) (variable_of l.literal) ≡ n = signal_of (variables_of s) (variable_of l.literal) n 0 (once (variable_of l.literal)) (omega (arith, few, all)) (latch_variable s k l here) in
      let found = latch_at (variables_of s) (length (variables_of s)) k s.latches l (latch n false) here in
      ap (λ m. t m (suc before)) at ∙ obeys n (suc before) inside ∙ ap (λ d. driven d (row_bit rows n (suc before)) t (suc before)) (latch_drive s k (latch n false) few ∙ found.1)
      ∙ next_bit s rows t before found.0 l obeys are (omega arith) found.2;
}

-- The outputs of the circuit are the output literals, and there is something to compare for every list of rows.
pub shows_literals : (c : Plain) (s : Sections) (body : List Statement) → HasOneTrace c → c.drives ≡ drives_of s
    → c.outputs ≡ range_with_len (length (variables_of s) + length (made_nexts s.latches)) (length s.outputs) → s ≡ sections_in body → ((m : ℕ) → times_in m (variables_of s) ≤ 1) → AreDriven s → ShowsLiterals body c
shows_literals c s body one drives outputs is once are = record {
  some = λ rows.
      let (t, traced) = one.some rows in
      let obeys : Obeys s rows t = λ k step inside. traced k step inside ∙ ap (λ ds. driven (get_or ds k (latch k false)) (row_bit rows k step) t step) drives in
      (variable_bits s t, traces s body rows t is once are obeys);
  same = λ rows bits t trace traced step inside. shows_same c s body one drives outputs is are rows bits t trace traced step inside;
}
