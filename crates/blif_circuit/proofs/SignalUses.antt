-- What the statements of a model say of its signals, read back from the circuit that they spell.
use Rattle.std.proofs.Common.{◌≡◌, ℕ, suc, ◌+◌, ◌<◌, ◌≤◌, Bool, true, false, cond, List, [], ◌∷◌, ◌++◌, Some, is_some, length, map, slice_get, inl, inr, refl, sym, ap, subst, zero-add, length-append, arith}
use Rattle.std.specs.List.{AllByRecursion, list_all, flat_map, filter}
use Rattle.std.proofs.lemmas.Bool.{cases_lt, and_parts, both_ways}
use Rattle.std.proofs.lemmas.Option.{slice_get_past}
use Rattle.std.proofs.lemmas.List.{length-map}
use Rattle.std.proofs.lemmas.List.Elements.{All-from_recursion}
use Rattle.std.proofs.lemmas.List.Recursion.{is_count_by}
use Rattle.tm_bits.specs.Rows.{HasWidth}
use Rattle.tm_circuit.specs.Plain.{Plain, Drive}
use Rattle.tm_circuit.specs.Plain as plain
use Rattle.tm_circuit.specs.Sound.{ReadsBelow, FitsPins}
use Rattle.blif_unit.specs.Unit.{Told, Telling, IsShaped, latch_told, gate_told, over, gate, latch, inputs, outputs, clock, place}
use Rattle.blif_circuit.specs.Circuit as told
use Rattle.blif_circuit.specs.Circuit.{Reading, reading, latches_read, gates_read, readings_of, names_of, inputs_of}

-- ---- facts of each element

pub all-unmap : {A B : Type 0} (P : B → Type 0) (f : A → B) (xs : List A) → AllByRecursion P (map f xs) → AllByRecursion (λ x. P (f x)) xs
all-unmap P f [] h = tt
all-unmap P f (x ∷ xs) h = (h.0, all-unmap P f xs h.1)

pub all-weaker : {A : Type 0} (P Q : A → Type 0) (xs : List A) → ((x : A) → P x → Q x) → AllByRecursion P xs → AllByRecursion Q xs
all-weaker P Q [] f h = tt
all-weaker P Q (x ∷ xs) f h = (f x h.0, all-weaker P Q xs f h.1)

pub all-both : {A : Type 0} (P : A → Type 0) (xs ys : List A) → AllByRecursion P xs → AllByRecursion P ys → AllByRecursion P (xs ++ ys)
all-both P [] ys h k = k
all-both P (x ∷ xs) ys h k = (h.0, all-both P xs ys h.1 k)

pub all-left : {A : Type 0} (P : A → Type 0) (xs ys : List A) → AllByRecursion P (xs ++ ys) → AllByRecursion P xs
all-left P [] ys h = tt
all-left P (x ∷ xs) ys h = (h.0, all-left P xs ys h.1)

pub all-right : {A : Type 0} (P : A → Type 0) (xs ys : List A) → AllByRecursion P (xs ++ ys) → AllByRecursion P ys
all-right P [] ys h = h
all-right P (x ∷ xs) ys h = all-right P xs ys h.1

pub all-filter : {A : Type 0} (P : A → Type 0) (q : A → Bool) (xs : List A) → AllByRecursion P xs → AllByRecursion P (filter q xs)
all-filter P q [] h = tt
all-filter P q (x ∷ xs) h = at (q x) (all-filter P q xs h.1)
  where
    at : (b : Bool) → AllByRecursion P (filter q xs) → AllByRecursion P (cond b (x ∷ filter q xs) (filter q xs))
    at true r = (h.0, r)
    at false r = r

-- ---- readings

-- Each signal read has a number, and a gate's rows are as wide as its pins are many.
abbrev pub IsResolved : Reading → Type 0
IsResolved told.input = Unit {0}
IsResolved (told.latch next init) = is_some next ≡ true
IsResolved (told.gate pins cover) = (list_all is_some pins ≡ true) × (length pins ≤ 255) × HasWidth cover (length pins)

pub all-some : {A : Type 0} (xs : List A) → list_all is_some (map Some xs) ≡ true
all-some [] = refl
all-some (x ∷ xs) = all-some xs

pub latches_resolved : (body : List Telling) → AllByRecursion IsResolved (flat_map (λ t. latches_read t.what) body)
latches_resolved [] = tt
latches_resolved (t ∷ body) = at t.what (latches_resolved body)
  where
    at : (w : Told) → AllByRecursion IsResolved (flat_map (λ t. latches_read t.what) body) → AllByRecursion IsResolved (latches_read w ++ flat_map (λ t. latches_read t.what) body)
    at (inputs names) r = r
    at (outputs names) r = r
    at (clock names) r = r
    at (gate pins name cover) r = r
    at (latch next name init control) r = (refl, r)
    at (place placed bindings) r = r

pub gates_resolved : (body : List Telling) → AllByRecursion (λ t. IsShaped t.what) body → AllByRecursion IsResolved (flat_map (λ t. gates_read t.what) body)
gates_resolved [] h = tt
gates_resolved (t ∷ body) h = at t.what h.0 (gates_resolved body h.1)
  where
    at : (w : Told) → IsShaped w → AllByRecursion IsResolved (flat_map (λ t. gates_read t.what) body) → AllByRecursion IsResolved (gates_read w ++ flat_map (λ t. gates_read t.what) body)
    at (inputs names) s r = r
    at (outputs names) s r = r
    at (clock names) s r = r
    at (gate pins name cover) s r =
        let same : length pins ≡ length (map Some pins) = sym (length-map pins Some) in
        ((all-some pins, subst (λ n. n ≤ 255) same s.1, subst (HasWidth cover) same s.0), r)
    at (latch next name init control) s r = r
    at (place placed bindings) s r = r

pub inputs_resolved : (xs : List (List ℕ)) → AllByRecursion IsResolved (map (λ _. told.input) xs)
inputs_resolved [] = tt
inputs_resolved (x ∷ xs) = (tt, inputs_resolved xs)

pub resolved : (body : List Telling) → AllByRecursion (λ t. IsShaped t.what) body → AllByRecursion IsResolved (readings_of body)
resolved body h =
    let i : List Reading = map (λ _. told.input) (inputs_of body) in
    let l : List Reading = flat_map (λ t. latches_read t.what) body in
    all-both IsResolved (i ++ l) (flat_map (λ t. gates_read t.what) body) (all-both IsResolved i l (inputs_resolved (inputs_of body)) (latches_resolved body)) (gates_resolved body h)

-- ---- from readings to drives

pub within : {A : Type 0} (xs : List A) (k : ℕ) → is_some (slice_get xs k) ≡ true → k < length xs
within xs k h =
    elim (cases_lt k (length xs)) [
      | inl lt ↦ lt
      | inr past ↦ let none : is_some (slice_get xs k) ≡ false = ap is_some (slice_get_past xs k past) in absurd (both_ways (is_some (slice_get xs k)) none h)
    ]

pub all-within : {A : Type 0} (xs : List A) (ks : List ℕ) → list_all is_some (map (slice_get xs) ks) ≡ true → AllByRecursion (λ k. k < length xs) ks
all-within xs [] h = tt
all-within xs (k ∷ ks) h = let p = and_parts (is_some (slice_get xs k)) (list_all is_some (map (slice_get xs) ks)) h in (within xs k p.0, all-within xs ks p.1)

pub reads_below : (names : List (List ℕ)) (d : Drive) → IsResolved (reading names d) → ReadsBelow (length names) d
reads_below names plain.input h = tt
reads_below names (plain.latch next init) h = within names next h
reads_below names (plain.gate pins cover) h = All-from_recursion (λ p. p < length names) pins (all-within names pins h.0)

pub fits_pins : (names : List (List ℕ)) (d : Drive) → IsResolved (reading names d) → FitsPins d
fits_pins names plain.input h = tt
fits_pins names (plain.latch next init) h = tt
fits_pins names (plain.gate pins cover) h =
    let same : length (map (slice_get names) pins) ≡ length pins = length-map pins (slice_get names) in
    (subst (λ n. n ≤ 255) same h.1, subst (HasWidth cover) same h.2)

-- ---- how many of each

latches_count : (body : List Telling) → length (flat_map (λ t. latches_read t.what) body) ≡ length (over latch_told body)
latches_count [] = refl
latches_count (t ∷ body) = at t.what (latches_count body)
  where
    at : (w : Told) → length (flat_map (λ t. latches_read t.what) body) ≡ length (over latch_told body) → length (latches_read w ++ flat_map (λ t. latches_read t.what) body) ≡ length (latch_told w ++ over latch_told body)
    at (inputs names) r = r
    at (outputs names) r = r
    at (clock names) r = r
    at (gate pins name cover) r = r
    at (latch next name init control) r = ap suc r
    at (place placed bindings) r = r

gates_count : (body : List Telling) → length (flat_map (λ t. gates_read t.what) body) ≡ length (over gate_told body)
gates_count [] = refl
gates_count (t ∷ body) = at t.what (gates_count body)
  where
    at : (w : Told) → length (flat_map (λ t. gates_read t.what) body) ≡ length (over gate_told body) → length (gates_read w ++ flat_map (λ t. gates_read t.what) body) ≡ length (gate_told w ++ over gate_told body)
    at (inputs names) r = r
    at (outputs names) r = r
    at (clock names) r = r
    at (gate pins name cover) r = ap suc r
    at (latch next name init control) r = r
    at (place placed bindings) r = r

pub readings_count : (body : List Telling) → length (readings_of body) ≡ length (names_of body)
readings_count body =
    let i : List Reading = map (λ _. told.input) (inputs_of body) in
    let l : List Reading = flat_map (λ t. latches_read t.what) body in
    let g : List Reading = flat_map (λ t. gates_read t.what) body in
    let one = length-append (i ++ l) g in
    let two = length-append i l in
    let three = length-append (inputs_of body ++ over latch_told body) (over gate_told body) in
    let four = length-append (inputs_of body) (over latch_told body) in
    let five : length i ≡ length (inputs_of body) = length-map (inputs_of body) (λ _. told.input) in
    let six = latches_count body in
    let seven = gates_count body in
    omega (arith, one, two, three, four, five, six, seven)

-- the inputs among readings, and the latches
abbrev pub reads_none : Reading → ℕ
reads_none told.input = 1
reads_none _ = 0

abbrev pub reads_next : Reading → ℕ
reads_next (told.latch next init) = 1
reads_next _ = 0

abbrev pub total : (Reading → ℕ) → List Reading → ℕ
total f [] = 0
total f (r ∷ rs) = f r + total f rs

total-append : (f : Reading → ℕ) (a b : List Reading) → total f (a ++ b) ≡ total f a + total f b
total-append f [] b = sym (zero-add (total f b))
total-append f (x ∷ a) b = let ih = total-append f a b in omega (arith, ih)

input-total : (xs : List (List ℕ)) → (total reads_none (map (λ _. told.input) xs) ≡ length xs) × (total reads_next (map (λ _. told.input) xs) ≡ 0)
input-total [] = (refl, refl)
input-total (x ∷ xs) = let ih = input-total xs in (omega (arith, ih.0), omega (arith, ih.1))

latch-total : (body : List Telling) → (total reads_none (flat_map (λ t. latches_read t.what) body) ≡ 0) × (total reads_next (flat_map (λ t. latches_read t.what) body) ≡ length (over latch_told body))
latch-total [] = (refl, refl)
latch-total (t ∷ body) = at t.what (latch-total body)
  where
    at : (w : Told) → (total reads_none (flat_map (λ t. latches_read t.what) body) ≡ 0) × (total reads_next (flat_map (λ t. latches_read t.what) body) ≡ length (over latch_told body))
        → (total reads_none (latches_read w ++ flat_map (λ t. latches_read t.what) body) ≡ 0) × (total reads_next (latches_read w ++ flat_map (λ t. latches_read t.what) body) ≡ length (latch_told w ++ over latch_told body))
    at (inputs names) r = r
    at (outputs names) r = r
    at (clock names) r = r
    at (gate pins name cover) r = r
    at (latch next name init control) r = (omega (arith, r.0), omega (arith, r.1))
    at (place placed bindings) r = r

gate-total : (body : List Telling) → (total reads_none (flat_map (λ t. gates_read t.what) body) ≡ 0) × (total reads_next (flat_map (λ t. gates_read t.what) body) ≡ 0)
gate-total [] = (refl, refl)
gate-total (t ∷ body) = at t.what (gate-total body)
  where
    at : (w : Told) → (total reads_none (flat_map (λ t. gates_read t.what) body) ≡ 0) × (total reads_next (flat_map (λ t. gates_read t.what) body) ≡ 0)
        → (total reads_none (gates_read w ++ flat_map (λ t. gates_read t.what) body) ≡ 0) × (total reads_next (gates_read w ++ flat_map (λ t. gates_read t.what) body) ≡ 0)
    at (inputs names) r = r
    at (outputs names) r = r
    at (clock names) r = r
    at (gate pins name cover) r = (omega (arith, r.0), omega (arith, r.1))
    at (latch next name init control) r = r
    at (place placed bindings) r = r

pub readings-total : (body : List Telling) → (total reads_none (readings_of body) ≡ length (inputs_of body)) × (total reads_next (readings_of body) ≡ length (over latch_told body))
readings-total body =
    let i : List Reading = map (λ _. told.input) (inputs_of body) in
    let l : List Reading = flat_map (λ t. latches_read t.what) body in
    let g : List Reading = flat_map (λ t. gates_read t.what) body in
    let a = total-append reads_none (i ++ l) g in
    let b = total-append reads_none i l in
    let c = total-append reads_next (i ++ l) g in
    let d = total-append reads_next i l in
    let ei = input-total (inputs_of body) in
    let el = latch-total body in
    let eg = gate-total body in
    (omega (arith, a, b, ei.0, el.0, eg.0), omega (arith, c, d, ei.1, el.1, eg.1))

input_step : (names : List (List ℕ)) (d : Drive) (n : ℕ) → reads_none (reading names d) + n ≡ cond (plain.is_input d) (1 + n) n
input_step names plain.input n = refl
input_step names (plain.latch next init) n = zero-add n
input_step names (plain.gate pins cover) n = zero-add n

latch_step : (names : List (List ℕ)) (d : Drive) (n : ℕ) → reads_next (reading names d) + n ≡ cond (plain.is_latch d) (1 + n) n
latch_step names plain.input n = zero-add n
latch_step names (plain.latch next init) n = refl
latch_step names (plain.gate pins cover) n = zero-add n

pub drives-total : (names : List (List ℕ)) (drives : List Drive) → (plain.input_count drives ≡ total reads_none (map (reading names) drives)) × (plain.latch_count drives ≡ total reads_next (map (reading names) drives))
drives-total names drives = (
  sym (is_count_by (λ (ds : List Drive). total reads_none (map (reading names) ds)) plain.is_input refl (λ d ds. input_step names d (total reads_none (map (reading names) ds))) drives),
  sym (is_count_by (λ (ds : List Drive). total reads_next (map (reading names) ds)) plain.is_latch refl (λ d ds. latch_step names d (total reads_next (map (reading names) ds))) drives),
)
