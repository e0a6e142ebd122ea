-- Names that stand once: the signals' names are those that the statements drive, without the clock's.
use Rattle.std.proofs.Common.{◌≡◌, ℕ, ◌+◌, ◌≤◌, Bool, true, false, not, cond, nat_lt, ◌||◌, List, [], ◌∷◌, ◌++◌, Option, bytes_eq, if◌then◌else◌, refl, sym, ◌∙◌, ap, subst, append_assoc, append-nil, zero-add, add_assoc, lt-ltb, ltb-false, arith}
use Rattle.std.specs.List.{list_any, filter}
use Rattle.std.proofs.lemmas.Bool.{both_ways}
use Rattle.std.proofs.lemmas.Slice.Eq.{bytes_eq-Decides}
use Rattle.std.proofs.lemmas.List.Elements.{filter-append}
use Rattle.blif_unit.specs.Unit.{Telling, AreDistinct, inputs_told, latch_told, gate_told, drivers_told, over}
use Rattle.blif_circuit.specs.Circuit.{is_named, is_clock, is_driven, inputs_of, names_of}
use Rattle.blif_circuit.specs.Signals.{put, put_all, unclocked}

-- how often a name stands in a list
abbrev pub tally : List ℕ → List (List ℕ) → ℕ
tally n [] = 0
tally n (x ∷ xs) = cond (bytes_eq n x) 1 0 + tally n xs

pub same_name : (a b : List ℕ) → bytes_eq a b ≡ true → a ≡ b
same_name a b = (bytes_eq-Decides a b).0

pub itself : (a : List ℕ) → bytes_eq a a ≡ true
itself a = (bytes_eq-Decides a a).1 refl

pub any-tally : (n : List ℕ) (xs : List (List ℕ)) → list_any (bytes_eq n) xs ≡ nat_lt 0 (tally n xs)
any-tally n [] = refl
any-tally n (x ∷ xs) = at (bytes_eq n x) (list_any (bytes_eq n) xs) (tally n xs) (any-tally n xs)
  where
    at : (b c : Bool) (t : ℕ) → c ≡ nat_lt 0 t → (b || c) ≡ nat_lt 0 (cond b 1 0 + t)
    at true c t e = sym (lt-ltb 0 (1 + t) (omega arith))
    at false c t e = e ∙ ap (nat_lt 0) (sym (zero-add t))

-- a name that is not there
pub none-tally : (n : List ℕ) (xs : List (List ℕ)) → list_any (bytes_eq n) xs ≡ false → tally n xs ≡ 0
none-tally n xs h = let e : tally n xs ≤ 0 = ltb-false 0 (tally n xs) (sym (any-tally n xs) ∙ h) in omega arith

pub tally-none : (n : List ℕ) (xs : List (List ℕ)) → tally n xs ≡ 0 → list_any (bytes_eq n) xs ≡ false
tally-none n xs h = any-tally n xs ∙ ap (nat_lt 0) h

pub tally-append : (n : List ℕ) (a b : List (List ℕ)) → tally n (a ++ b) ≡ tally n a + tally n b
tally-append n [] b = sym (zero-add (tally n b))
tally-append n (x ∷ a) b = ap (λ t. cond (bytes_eq n x) 1 0 + t) (tally-append n a b) ∙ sym (add_assoc (cond (bytes_eq n x) 1 0) (tally n a) (tally n b))

-- a name that stands once, or not at all
abbrev pub StandsOnce : List (List ℕ) → Type 0
StandsOnce xs = (n : List ℕ) → tally n xs ≤ 1

pub once : (xs : List (List ℕ)) → AreDistinct xs → StandsOnce xs
once [] h n = omega arith
once (x ∷ xs) h n = at (bytes_eq n x) refl (once xs h.1 n)
  where
    at : (b : Bool) → bytes_eq n x ≡ b → tally n xs ≤ 1 → cond b 1 0 + tally n xs ≤ 1
    at true e ih =
        let z : tally n xs ≡ 0 = subst (λ m. tally m xs ≡ 0) (sym (same_name n x e)) (none-tally x xs h.0) in
        omega arith
    at false e ih = omega arith

pub distinct : (xs : List (List ℕ)) → StandsOnce xs → AreDistinct xs
distinct [] h = tt
distinct (x ∷ xs) h =
    let first : cond (bytes_eq x x) 1 0 + tally x xs ≤ 1 = h x in
    let here : 1 + tally x xs ≤ 1 = subst (λ b. cond b 1 0 + tally x xs ≤ 1) (itself x) first in
    let z : tally x xs ≡ 0 = omega arith in
    (tally-none x xs z, distinct xs (λ n. let all : cond (bytes_eq n x) 1 0 + tally n xs ≤ 1 = h n in omega arith))

-- ---- filters

pub tally-kept : (q : List ℕ → Bool) (n : List ℕ) (xs : List (List ℕ)) → q n ≡ true → tally n (filter q xs) ≡ tally n xs
tally-kept q n [] k = refl
tally-kept q n (x ∷ xs) k = at (q x) (bytes_eq n x) refl refl (tally-kept q n xs k)
  where
    at : (b c : Bool) → q x ≡ b → bytes_eq n x ≡ c → tally n (filter q xs) ≡ tally n xs → tally n (cond b (x ∷ filter q xs) (filter q xs)) ≡ cond c 1 0 + tally n xs
    at true c e d ih = ap (λ v. cond v 1 0 + tally n (filter q xs)) d ∙ ap (λ v. cond c 1 0 + v) ih
    at false true e d ih = absurd (both_ways (q x) e (subst (λ m. q m ≡ true) (same_name n x d) k))
    at false false e d ih = ih ∙ sym (zero-add (tally n xs))

pub tally-out : (q : List ℕ → Bool) (n : List ℕ) (xs : List (List ℕ)) → q n ≡ false → tally n (filter q xs) ≡ 0
tally-out q n [] k = refl
tally-out q n (x ∷ xs) k = at (q x) (bytes_eq n x) refl refl (tally-out q n xs k)
  where
    at : (b c : Bool) → q x ≡ b → bytes_eq n x ≡ c → tally n (filter q xs) ≡ 0 → tally n (cond b (x ∷ filter q xs) (filter q xs)) ≡ 0
    at true true e d ih = absurd (both_ways (q x) (subst (λ m. q m ≡ false) (same_name n x d) k) e)
    at true false e d ih = ap (λ v. cond v 1 0 + tally n (filter q xs)) d ∙ zero-add (tally n (filter q xs)) ∙ ih
    at false c e d ih = ih

pub tally-fewer : (q : List ℕ → Bool) (n : List ℕ) (xs : List (List ℕ)) → tally n (filter q xs) ≤ tally n xs
tally-fewer q n xs = at (q n) refl
  where
    at : (b : Bool) → q n ≡ b → tally n (filter q xs) ≤ tally n xs
    at true e = let k = tally-kept q n xs e in omega arith
    at false e = let k = tally-out q n xs e in omega arith

-- ---- drivers

pub tally-drivers : (n : List ℕ) (body : List Telling) → tally n (over drivers_told body) ≡ tally n (over inputs_told body) + (tally n (over latch_told body) + tally n (over gate_told body))
tally-drivers n [] = refl
tally-drivers n (t ∷ body) =
    let i = inputs_told t.what in
    let l = latch_told t.what in
    let g = gate_told t.what in
    let all = tally-append n (drivers_told t.what) (over drivers_told body) in
    let first = tally-append n (i ++ l) g in
    let second = tally-append n i l in
    let ih = tally-drivers n body in
    let ei = tally-append n i (over inputs_told body) in
    let el = tally-append n l (over latch_told body) in
    let eg = tally-append n g (over gate_told body) in
    omega (arith, all, first, second, ih, ei, el, eg)

pub tally-names : (n : List ℕ) (body : List Telling) → tally n (names_of body) ≡ tally n (inputs_of body) + (tally n (over latch_told body) + tally n (over gate_told body))
tally-names n body =
    let first = tally-append n (inputs_of body ++ over latch_told body) (over gate_told body) in
    let second = tally-append n (inputs_of body) (over latch_told body) in
    omega (arith, first, second)

-- the signals' names stand once where the drivers do
pub names_once : (body : List Telling) → AreDistinct (over drivers_told body) → StandsOnce (names_of body)
names_once body h n =
    let all = once (over drivers_told body) h n in
    let parts = tally-drivers n body in
    let names = tally-names n body in
    let fewer = tally-fewer (λ m. not (is_clock body m)) n (over inputs_told body) in
    omega (arith, all, parts, names, fewer)

pub names_distinct : (body : List Telling) → AreDistinct (over drivers_told body) → AreDistinct (names_of body)
names_distinct body h = distinct (names_of body) (names_once body h)

-- a name is driven or the clock's exactly where it is a signal's or the clock's
pub driven_or_clock : (body : List Telling) (n : List ℕ) → (is_driven body n || is_clock body n) ≡ (list_any (bytes_eq n) (names_of body) || is_clock body n)
driven_or_clock body n = at (is_clock body n) refl
  where
    or_true : (b c : Bool) → (b || true) ≡ (c || true)
    or_true true true = refl
    or_true true false = refl
    or_true false true = refl
    or_true false false = refl

    at : (k : Bool) → is_clock body n ≡ k → (is_driven body n || k) ≡ (list_any (bytes_eq n) (names_of body) || k)
    at true e = or_true (is_driven body n) (list_any (bytes_eq n) (names_of body))
    at false e =
        let kept = tally-kept (λ m. not (is_clock body m)) n (over inputs_told body) (ap not e) in
        let parts = tally-drivers n body in
        let names = tally-names n body in
        let same : tally n (over drivers_told body) ≡ tally n (names_of body) = omega (arith, kept, parts, names) in
        ap (λ b. b || false) (any-tally n (over drivers_told body) ∙ ap (nat_lt 0) same ∙ sym (any-tally n (names_of body)))

-- ---- names put in turn

pub put_all-distinct : (seen ns : List (List ℕ)) → StandsOnce (seen ++ ns) → put_all seen ns ≡ seen ++ ns
put_all-distinct seen [] h = sym (append-nil seen)
put_all-distinct seen (n ∷ ns) h =
    let split : tally n (seen ++ n ∷ ns) ≡ tally n seen + (cond (bytes_eq n n) 1 0 + tally n ns) = tally-append n seen (n ∷ ns) in
    let here : ◌≡◌ {A = ℕ} (cond (bytes_eq n n) 1 0) 1 = ap (λ b. cond b 1 0) (itself n) in
    let most : tally n (seen ++ n ∷ ns) ≤ 1 = h n in
    let z : tally n seen ≡ 0 = omega (arith, here, split, most) in
    let fresh : put seen n ≡ seen ++ n ∷ [] = ap (λ b. if b then seen else seen ++ n ∷ []) (tally-none n seen z) in
    let assoc : (seen ++ n ∷ []) ++ ns ≡ seen ++ n ∷ ns = append_assoc seen (n ∷ []) ns in
    ap (λ s. put_all s ns) fresh ∙ put_all-distinct (seen ++ n ∷ []) ns (subst StandsOnce (sym assoc) h) ∙ assoc

pub unclocked-over : (clock : Option (List ℕ)) (body : List Telling) → over (λ told. unclocked clock (inputs_told told)) body ≡ unclocked clock (over inputs_told body)
unclocked-over clock [] = refl
unclocked-over clock (t ∷ body) =
    ap (λ y. unclocked clock (inputs_told t.what) ++ y) (unclocked-over clock body) ∙ sym (filter-append (λ n. not (is_named clock n)) (inputs_told t.what) (over inputs_told body))
