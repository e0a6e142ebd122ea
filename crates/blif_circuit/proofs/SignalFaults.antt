-- What it means that no name of a model is at fault.
use Rattle.std.proofs.Common.{◌≡◌, ℕ, ◌≤◌, Bool, true, false, not, cond, nat_lt, ◌&&◌, ◌||◌, List, [], ◌∷◌, ◌++◌, Option, None, Some, length, map, option_map, bytes_eq, ◌+◌, ◌<◌, take, get_or, filter, min, if◌then◌else◌, refl, sym, ◌∙◌, ap, append-nil, ltb-false, arith}
use Rattle.std.specs.List.{list_any, list_all, flat_map, find}
use Rattle.std.specs.Option.{option_or}
use Rattle.std.proofs.lemmas.Bool.{or_from, and_parts}
use Rattle.std.proofs.lemmas.List.{map-append}
use Rattle.std.proofs.lemmas.List.Elements.{filter-append}
use Rattle.blif_unit.specs.declared.fault.BlifKind.{BlifKind}
use Rattle.blif_unit.specs.declared.fault.BlifKind.TheVariants.{Undriven, GatedClock, ClockAsData, TooManySignals}
use Rattle.blif_unit.specs.declared.unit.Stated.{Stated}
use Rattle.blif_unit.specs.Unit.{Told, Telling, told_of, telling_of, uses_told, outputs_told, over, gate, latch, inputs, outputs, clock, place}
use Rattle.blif_unit.specs.Fault.{Faulty}
use Rattle.blif_circuit.specs.Circuit.{is_clock, is_named, is_driven, clock_name, made_told, names_of, first_with, less_of, least, lines_with, least_with, fault_in_names}
use Rattle.blif_circuit.specs.Signals.{AreKnown}
use Rattle.blif_circuit.proofs.SignalLoops.{all-append, take-step}
use Rattle.blif_circuit.proofs.SignalNames.{driven_or_clock}

pub any-append : {A : Type 0} (p : A → Bool) (a b : List A) → list_any p (a ++ b) ≡ (list_any p a || list_any p b)
any-append p [] b = refl
any-append p (x ∷ a) b = or_more (p x) _ _ _ (any-append p a b)
  where
    or_more : (t u v w : Bool) → u ≡ (v || w) → (t || u) ≡ ((t || v) || w)
    or_more true u v w e = refl
    or_more false u v w e = e

pub any-agree : {A : Type 0} (p q : A → Bool) (xs : List A) → ((x : A) → p x ≡ q x) → list_any p xs ≡ list_any q xs
any-agree p q [] e = refl
any-agree p q (x ∷ xs) e = ap (λ b. b || list_any p xs) (e x) ∙ ap (λ b. q x || b) (any-agree p q xs e)

-- some name of some statement passes a test
pub any-over : {A : Type 0} (p : A → Bool) (f : Told → List A) (body : List Stated) → list_any (λ (s : Stated). list_any p (f (told_of s.what))) body ≡ list_any p (flat_map (λ (t : Telling). f t.what) (map telling_of body))
any-over p f [] = refl
any-over p f (s ∷ body) =
    ap (λ b. list_any p (f (told_of s.what)) || b) (any-over p f body)
    ∙ sym (any-append p (f (told_of s.what)) (flat_map (λ (t : Telling). f t.what) (map telling_of body)))

-- the first statement of which some name passes the test, found by a test that agrees
pub first-find : (names : Told → List (List ℕ)) (p q : List ℕ → Bool) (kind : BlifKind) (body : List Stated) → ((n : List ℕ) → p n ≡ q n)
    → option_map (λ (line : ℕ). (line, kind)) (option_map (λ (s : Stated). s.line) (find (λ (s : Stated). list_any q (names (told_of s.what))) body)) ≡ first_with names p kind (map telling_of body)
first-find names p q kind [] e = refl
first-find names p q kind (s ∷ body) e =
    at (list_any q (names (told_of s.what))) (list_any p (names (told_of s.what))) (sym (any-agree p q (names (told_of s.what)) e)) _ _ (first-find names p q kind body e)
  where
    at : (b c : Bool) → b ≡ c → (f : Option Stated) (r : Option Faulty) → option_map (λ (line : ℕ). (line, kind)) (option_map (λ (t : Stated). t.line) f) ≡ r
        → option_map (λ (line : ℕ). (line, kind)) (option_map (λ (t : Stated). t.line) (cond b (Some s) f)) ≡ (if c then Some (s.line, kind) else r)
    at true true d f r h = refl
    at true false d f r h = cc
    at false true d f r h = cc
    at false false d f r h = h

-- ---- the least line

pub least-push : (xs : List ℕ) (y : ℕ) → least (xs ++ y ∷ []) ≡ Some (less_of y (least xs))
least-push [] y = refl
least-push (x ∷ xs) y = ap (λ (o : Option ℕ). Some (less_of x o)) (least-push xs y) ∙ ap (λ n. Some n) (swap (least xs))
  where
    swap : (o : Option ℕ) → min x (less_of y o) ≡ min y (less_of x o)
    swap None = omega arith
    swap (Some m) = omega arith

-- the lines of the statements that pass a test, one statement more
module _ (p : Stated → Bool) (body : List Stated) (i : ℕ) (s : Stated) (within : i < length body) (is : s ≡ get_or body i s) where
  abbrev lines_of : ℕ → List ℕ
  lines_of n = map (λ (x : Stated). x.line) (filter p (take n body))

  more : (b : Bool) → p s ≡ b → lines_of (i + 1) ≡ lines_of i ++ map (λ (x : Stated). x.line) (cond b (s ∷ []) [])
  more b e =
      ap (λ xs. map (λ (x : Stated). x.line) (filter p xs)) (take-step body i s within is)
      ∙ (ap (map (λ (x : Stated). x.line)) (filter-append p (take i body) (s ∷ []))
      ∙ (map-append (λ (x : Stated). x.line) (filter p (take i body)) (cond (p s) (s ∷ []) [])
      ∙ ap (λ c. lines_of i ++ map (λ (x : Stated). x.line) (cond c (s ∷ []) [])) e))

  pub least-passes : p s ≡ true → least (lines_of (i + 1)) ≡ Some (less_of s.line (least (lines_of i)))
  least-passes e = ap least (more true e) ∙ least-push (lines_of i) s.line

  pub least-fails : p s ≡ false → least (lines_of (i + 1)) ≡ least (lines_of i)
  least-fails e = ap least (more false e ∙ append-nil (lines_of i))

-- The fault of the least line, found by a test that agrees.
pub least-find : (names : Told → List (List ℕ)) (p q : List ℕ → Bool) (kind : BlifKind) (body : List Stated) → ((n : List ℕ) → p n ≡ q n)
    → option_map (λ (line : ℕ). (line, kind)) (least (map (λ (s : Stated). s.line) (filter (λ (s : Stated). list_any q (names (told_of s.what))) body)))
    ≡ least_with names p kind (map telling_of body)
least-find names p q kind body e = ap (λ lines. option_map (λ (line : ℕ). (line, kind)) (least lines)) (same body)
  where
    at : (b c : Bool) → b ≡ c → (xs : List Stated) (ys : List Telling) → map (λ (s : Stated). s.line) xs ≡ map (λ (t : Telling). t.line) ys
        → (s : Stated) → map (λ (x : Stated). x.line) (cond b (s ∷ xs) xs) ≡ map (λ (t : Telling). t.line) (cond c (telling_of s ∷ ys) ys)
    at true true d xs ys h s = ap (λ ls. s.line ∷ ls) h
    at true false d xs ys h s = cc
    at false true d xs ys h s = cc
    at false false d xs ys h s = h

    same : (xs : List Stated) → map (λ (s : Stated). s.line) (filter (λ (s : Stated). list_any q (names (told_of s.what))) xs)
        ≡ lines_with names p (map telling_of xs)
    same [] = refl
    same (s ∷ xs) =
        at (list_any q (names (told_of s.what))) (list_any p (names (told_of s.what))) (sym (any-agree p q (names (told_of s.what)) e)) _ _ (same xs) s

none-least : (xs : List ℕ) (kind : BlifKind) → option_map {U = Faulty} (λ (line : ℕ). (line, kind)) (least xs) ≡ None → xs ≡ []
none-least [] kind h = refl
none-least (x ∷ xs) kind h = cc

no-lines : (names : Told → List (List ℕ)) (p : List ℕ → Bool) (body : List Telling) → lines_with names p body ≡ [] → list_any p (over names body) ≡ false
no-lines names p [] e = refl
no-lines names p (t ∷ body) e = at (list_any p (names t.what)) refl e (no-lines names p body)
  where
    passing : List Telling
    passing = filter (λ (x : Telling). list_any p (names x.what)) body

    at : (b : Bool) → list_any p (names t.what) ≡ b → map (λ (x : Telling). x.line) (cond b (t ∷ passing) passing) ≡ []
        → (lines_with names p body ≡ [] → list_any p (over names body) ≡ false) → list_any p (names t.what ++ over names body) ≡ false
    at true f k ih = cc
    at false f k ih = any-append p (names t.what) (over names body) ∙ or_from (list_any p (names t.what)) (list_any p (over names body)) f (ih k)

pub least-none : (names : Told → List (List ℕ)) (p : List ℕ → Bool) (kind : BlifKind) (body : List Telling) → least_with names p kind body ≡ None → list_any p (over names body) ≡ false
least-none names p kind body h = no-lines names p body (none-least (lines_with names p body) kind h)

-- ---- the first statement

pub first-none : (names : Told → List (List ℕ)) (p : List ℕ → Bool) (kind : BlifKind) (body : List Telling) → first_with names p kind body ≡ None → list_any p (over names body) ≡ false
first-none names p kind [] h = refl
first-none names p kind (t ∷ body) h = at (list_any p (names t.what)) refl h (first-none names p kind body)
  where
    at : (b : Bool) → list_any p (names t.what) ≡ b → ◌≡◌ {A = Option Faulty} (if b then Some (t.line, kind) else first_with names p kind body) None
        → (first_with names p kind body ≡ None → list_any p (over names body) ≡ false) → list_any p (names t.what ++ over names body) ≡ false
    at true e k ih = cc
    at false e k ih = any-append p (names t.what) (over names body) ∙ or_from (list_any p (names t.what)) (list_any p (over names body)) e (ih k)

-- No name is at fault.
pub record IsFaultless (limit : ℕ) (body : List Telling) : Type 0 where
  pub driven : list_any (λ n. not (is_driven body n || is_clock body n)) (over uses_told body) ≡ false
  pub ungated : list_any (is_clock body) (over made_told body) ≡ false
  pub unused : list_any (is_clock body) (over uses_told body) ≡ false
  pub few : length (names_of body) ≤ limit

or-none : (a b : Option Faulty) → option_or a b ≡ None → (a ≡ None) × (b ≡ None)
or-none None b h = (refl, h)
or-none (Some x) b h = absurd (let e : ◌≡◌ {A = Option Faulty} (Some x) None = h in cc)

pub faultless : (limit : ℕ) (body : List Telling) → fault_in_names limit body ≡ None → IsFaultless limit body
faultless limit body h =
    let many : Option Faulty = if nat_lt limit (length (names_of body)) then Some (0, TooManySignals) else None in
    let used = least_with uses_told (is_clock body) ClockAsData body in
    let gated = first_with made_told (is_clock body) GatedClock body in
    let undriven = least_with uses_told (λ n. not (is_driven body n || is_clock body n)) Undriven body in
    let one = or-none undriven (option_or gated (option_or used many)) h in
    let two = or-none gated (option_or used many) one.1 in
    let three = or-none used many two.1 in
    record {
      driven = least-none uses_told (λ n. not (is_driven body n || is_clock body n)) Undriven body one.0;
      ungated = first-none made_told (is_clock body) GatedClock body two.0;
      unused = least-none uses_told (is_clock body) ClockAsData body three.0;
      few = at (nat_lt limit (length (names_of body))) refl three.1;
    }
  where
    at : (b : Bool) → nat_lt limit (length (names_of body)) ≡ b → ◌≡◌ {A = Option Faulty} (if b then Some (0, TooManySignals) else None) None → length (names_of body) ≤ limit
    at true e k = cc
    at false e k = ltb-false limit (length (names_of body)) e

-- ---- uses

known_then : (g x p : Bool) → (not (x || false) || p) ≡ false → (p ≡ false → g ≡ true) → g ≡ true
known_then g true p e rest = rest e
known_then g false p e rest = cc

known_step : (a b c p q r : Bool) → (a || c) ≡ (b || c) → (not (a || c) || p) ≡ false → (c || q) ≡ false → (p ≡ false → q ≡ false → r ≡ true) → (b && r) ≡ true
known_step a true false p q r s d u rest = known_then r a p d (λ e. rest e u)
known_step true false false p q r s d u rest = cc
known_step false false false p q r s d u rest = cc
known_step a b true p q r s d u rest = cc

all-known : (f g k : List ℕ → Bool) (xs : List (List ℕ)) → ((n : List ℕ) → (f n || k n) ≡ (g n || k n)) → list_any (λ n. not (f n || k n)) xs ≡ false → list_any k xs ≡ false → list_all g xs ≡ true
all-known f g k [] e d u = refl
all-known f g k (x ∷ xs) e d u =
    known_step (f x) (g x) (k x) (list_any (λ n. not (f n || k n)) xs) (list_any k xs) (list_all g xs) (e x) d u (λ d' u'. all-known f g k xs e d' u')

-- each use of a name is the use of a signal
pub uses_known : (limit : ℕ) (body : List Telling) → IsFaultless limit body → AreKnown (names_of body) (over uses_told body)
uses_known limit body h = record {
  each = all-known (is_driven body) (λ n. list_any (bytes_eq n) (names_of body)) (is_clock body) (over uses_told body) (driven_or_clock body) h.driven h.unused;
}

output-known : (p : List ℕ → Bool) (told : Told) (uses outputs : List (List ℕ)) → (list_all p (uses_told told) ≡ true) × (list_all p uses ≡ true) → (list_all p uses ≡ true → list_all p outputs ≡ true)
    → list_all p (outputs_told told ++ outputs) ≡ true
output-known p (inputs names) us os h rest = rest h.1
output-known p (outputs names) us os h rest = all-append p names os ∙ ap (λ b. b && list_all p os) h.0 ∙ rest h.1
output-known p (clock names) us os h rest = rest h.1
output-known p (gate pins name cover) us os h rest = rest h.1
output-known p (latch next name init control) us os h rest = rest h.1
output-known p (place placed bindings) us os h rest = rest h.1

outputs-pass : (p : List ℕ → Bool) (body : List Telling) → list_all p (over uses_told body) ≡ true → list_all p (over outputs_told body) ≡ true
outputs-pass p [] h = refl
outputs-pass p (t ∷ body) h =
    output-known p t.what (over uses_told body) (over outputs_told body) (and_parts (list_all p (uses_told t.what)) (list_all p (over uses_told body)) (sym (all-append p (uses_told t.what) (over uses_told body)) ∙ h))
    (outputs-pass p body)

-- so is each output
pub outputs_known : (signals : List (List ℕ)) (body : List Telling) → AreKnown signals (over uses_told body) → AreKnown signals (over outputs_told body)
outputs_known signals body h = record { each = outputs-pass (λ n. list_any (bytes_eq n) signals) body h.each }

-- ---- the first fault, by the lines found

-- the line of the first statement of which some name passes a test
abbrev pub line_with : (Told → List (List ℕ)) → (List ℕ → Bool) → List Stated → Option ℕ
line_with names test body = option_map (λ (s : Stated). s.line) (find (λ (s : Stated). list_any test (names (told_of s.what))) body)

-- the least line of a statement of which some name passes a test
abbrev pub least_line : (Told → List (List ℕ)) → (List ℕ → Bool) → List Stated → Option ℕ
least_line names test body = least (map (λ (s : Stated). s.line) (filter (λ (s : Stated). list_any test (names (told_of s.what))) body))

abbrev pub fault_at : BlifKind → Option ℕ → Option Faulty
fault_at kind line = option_map (λ (l : ℕ). (l, kind)) line

abbrev pub fault_of_many : ℕ → ℕ → Option Faulty
fault_of_many limit n = if nat_lt limit n then Some (0, TooManySignals) else None

pub fault_parts : (limit : ℕ) (body : List Stated) (name : Option (List ℕ)) (signals : List (List ℕ)) (u g d : Option ℕ) → name ≡ clock_name (map telling_of body) → signals ≡ names_of (map telling_of body)
    → u ≡ least_line uses_told (λ n. not (list_any (bytes_eq n) signals || is_named name n)) body → g ≡ line_with made_told (is_named name) body → d ≡ least_line uses_told (is_named name) body
    → fault_in_names limit (map telling_of body) ≡ option_or (fault_at Undriven u) (option_or (fault_at GatedClock g) (option_or (fault_at ClockAsData d) (fault_of_many limit (length signals))))
fault_parts limit body name signals u g d ec es hu hg hd =
    let b : List Telling = map telling_of body in
    let many : Option Faulty = fault_of_many limit (length (names_of b)) in
    let used : Option Faulty = least_with uses_told (is_clock b) ClockAsData b in
    let gated : Option Faulty = first_with made_told (is_clock b) GatedClock b in
    let undriven : Option Faulty = least_with uses_told (λ n. not (is_driven b n || is_clock b n)) Undriven b in
    let same : (n : List ℕ) → is_clock b n ≡ is_named name n = λ n. ap (λ k. is_named k n) (sym ec) in
    let tests : (n : List ℕ) → not (is_driven b n || is_clock b n) ≡ not (list_any (bytes_eq n) signals || is_named name n)
    = λ n. ap not (driven_or_clock b n ∙ ap (λ ns. list_any (bytes_eq n) ns || is_clock b n) (sym es) ∙ ap (λ k. list_any (bytes_eq n) signals || k) (same n)) in
    let eu : undriven ≡ fault_at Undriven u
    = sym (ap (fault_at Undriven) hu ∙ least-find uses_told (λ n. not (is_driven b n || is_clock b n)) (λ n. not (list_any (bytes_eq n) signals || is_named name n)) Undriven body tests) in
    let eg : gated ≡ fault_at GatedClock g = sym (ap (fault_at GatedClock) hg ∙ first-find made_told (is_clock b) (is_named name) GatedClock body same) in
    let ed : used ≡ fault_at ClockAsData d = sym (ap (fault_at ClockAsData) hd ∙ least-find uses_told (is_clock b) (is_named name) ClockAsData body same) in
    let em : many ≡ fault_of_many limit (length signals) = ap (λ (ns : List (List ℕ)). fault_of_many limit (length ns)) (sym es) in
    ap (λ (o : Option Faulty). option_or o (option_or gated (option_or used many))) eu
    ∙ ap (λ (o : Option Faulty). option_or (fault_at Undriven u) (option_or o (option_or used many))) eg
    ∙ ap (λ (o : Option Faulty). option_or (fault_at Undriven u) (option_or (fault_at GatedClock g) (option_or o many))) ed
    ∙ ap (λ (o : Option Faulty). option_or (fault_at Undriven u) (option_or (fault_at GatedClock g) (option_or (fault_at ClockAsData d) o))) em
