-- The clock of a model: its place, its edge and its name.
use Rattle.std.proofs.Common.{◌≡◌, ◌≢◌, ℕ, suc, ◌+◌, ◌≤◌, Bool, true, false, not, cond, nat_lt, ◌&&◌, ◌||◌, List, [], ◌∷◌, ◌++◌, Option, None, Some, is_some, length, position, slice_get, bytes_eq, refl, sym, ◌∙◌, ap, subst, arith}
use Rattle.std.specs.Prelude.{option_map, codes, IfSome}
use Rattle.std.specs.List.{AllByRecursion, list_any, list_all, position_or_len}
use Rattle.std.specs.Option.{option_to_list}
use Rattle.std.proofs.lemmas.Bool.{and_parts, both_ways}
use Rattle.blif_unit.specs.declared.unit.Control.{Control}
use Rattle.blif_unit.specs.Unit.{Told, Telling, IsShaped, AreSame, control_told, clocks_told, latch_told, over, gate, latch, inputs, outputs, clock, place}
use Rattle.blif_circuit.specs.Circuit.{declared_told, edges_of}
use Rattle.blif_circuit.specs.Signals.{unclocked}
use Rattle.blif_circuit.proofs.SignalNames.{same_name, itself, tally}

pub swapped : (a b : List ℕ) → bytes_eq a b ≡ bytes_eq b a
swapped a b = at (bytes_eq a b) (bytes_eq b a) refl refl
  where
    at : (s t : Bool) → bytes_eq a b ≡ s → bytes_eq b a ≡ t → bytes_eq a b ≡ bytes_eq b a
    at true true e d = e ∙ sym d
    at false false e d = e ∙ sym d
    at true false e d = let o : bytes_eq b a ≡ true = subst (λ x. bytes_eq x a ≡ true) (same_name a b e) (itself a) in absurd (both_ways (bytes_eq b a) d o)
    at false true e d = let o : bytes_eq a b ≡ true = subst (λ x. bytes_eq x b ≡ true) (same_name b a d) (itself b) in absurd (both_ways (bytes_eq a b) e o)

-- the names before the clock's are inputs
before-kept : (n : List ℕ) (xs : List (List ℕ)) → position_or_len (bytes_eq n) xs ≤ length (unclocked (Some n) xs)
before-kept n [] = omega arith
before-kept n (x ∷ xs) = at (bytes_eq n x) (bytes_eq x n) (swapped n x) (before-kept n xs)
  where
    at : (s t : Bool) → s ≡ t → position_or_len (bytes_eq n) xs ≤ length (unclocked (Some n) xs)
        → cond (not s) (1 + position_or_len (bytes_eq n) xs) 0 ≤ length (cond (not t) (x ∷ unclocked (Some n) xs) (unclocked (Some n) xs))
    at true true e ih = omega arith
    at false false e ih = omega arith
    at true false e ih = cc
    at false true e ih = cc

pub place_kept : (n : List ℕ) (xs : List (List ℕ)) → IfSome (position (bytes_eq n) xs) (λ before. before ≤ length (unclocked (Some n) xs))
place_kept n xs = at (nat_lt (position_or_len (bytes_eq n) xs) (length xs)) (position_or_len (bytes_eq n) xs) (before-kept n xs)
  where
    at : (b : Bool) (k : ℕ) → k ≤ length (unclocked (Some n) xs) → IfSome (cond b (Some k) None) (λ before. before ≤ length (unclocked (Some n) xs))
    at true k h = h
    at false k h = tt

-- at most one name is the clock's
left-out : (n : List ℕ) (xs : List (List ℕ)) → length xs ≤ length (unclocked (Some n) xs) + tally n xs
left-out n [] = omega arith
left-out n (x ∷ xs) = at (bytes_eq n x) (bytes_eq x n) (swapped n x) (left-out n xs)
  where
    at : (s t : Bool) → s ≡ t → length xs ≤ length (unclocked (Some n) xs) + tally n xs
        → suc (length xs) ≤ length (cond (not t) (x ∷ unclocked (Some n) xs) (unclocked (Some n) xs)) + (cond s 1 0 + tally n xs)
    at true true e ih = omega arith
    at false false e ih = omega arith
    at true false e ih = cc
    at false true e ih = cc

unclocked-none : (xs : List (List ℕ)) → unclocked None xs ≡ xs
unclocked-none [] = refl
unclocked-none (x ∷ xs) = ap (λ ys. x ∷ ys) (unclocked-none xs)

pub inputs_few : (clock : Option (List ℕ)) (xs : List (List ℕ)) → ((n : List ℕ) → tally n xs ≤ 1) → length xs ≤ length (unclocked clock xs) + 1
inputs_few None xs h = let e : length (unclocked None xs) ≡ length xs = ap length (unclocked-none xs) in omega (arith, e)
inputs_few (Some n) xs h = let most = left-out n xs in let one = h n in omega (arith, most, one)

-- ---- edges

-- an edge is that of a latch
pub edges_few : (body : List Telling) → length (edges_of body) ≤ length (over latch_told body)
edges_few [] = omega arith
edges_few (t ∷ body) = at t.what (edges_few body)
  where
    at : (w : Told) → length (edges_of body) ≤ length (over latch_told body) → length (option_to_list (option_map (λ (control : Control). control.edge) (control_told w)) ++ edges_of body) ≤ length (latch_told w ++ over latch_told body)
    at (inputs names) r = r
    at (outputs names) r = r
    at (clock names) r = r
    at (gate pins name cover) r = r
    at (latch next name init None) r = omega arith
    at (latch next name init (Some control)) r = omega arith
    at (place placed bindings) r = r

-- without an edge each clock is declared
pub all_declared : (body : List Telling) → edges_of body ≡ [] → over clocks_told body ≡ over declared_told body
all_declared [] h = refl
all_declared (t ∷ body) h = at t.what h (all_declared body)
  where
    at : (w : Told) → option_to_list (option_map (λ (control : Control). control.edge) (control_told w)) ++ edges_of body ≡ [] → (edges_of body ≡ [] → over clocks_told body ≡ over declared_told body)
        → clocks_told w ++ over clocks_told body ≡ declared_told w ++ over declared_told body
    at (inputs names) e ih = ih e
    at (outputs names) e ih = ih e
    at (clock names) e ih = ap (λ ys. names ++ ys) (ih e)
    at (gate pins name cover) e ih = ih e
    at (latch next name init None) e ih = ih e
    at (latch next name init (Some control)) e ih = cc
    at (place placed bindings) e ih = ih e

after : (p : List ℕ → Bool) (xs ys : List (List ℕ)) → list_all p (xs ++ ys) ≡ true → list_all p ys ≡ true
after p [] ys h = h
after p (x ∷ xs) ys h = after p xs ys (and_parts (p x) (list_all p (xs ++ ys)) h).1

-- with an edge the clock's name is a control's, which is not `NIL`
pub not_nil : (n : List ℕ) (body : List Telling) → list_all (bytes_eq n) (over clocks_told body) ≡ true → AllByRecursion (λ t. IsShaped t.what) body → is_some (slice_get (edges_of body) 0) ≡ true → n ≢ codes "NIL"
not_nil n [] same shaped edge = cc
not_nil n (t ∷ body) same shaped edge = at t.what same shaped.0 edge (λ s e. not_nil n body s shaped.1 e)
  where
    at : (w : Told) → list_all (bytes_eq n) (clocks_told w ++ over clocks_told body) ≡ true → IsShaped w
        → is_some (slice_get (option_to_list (option_map (λ (control : Control). control.edge) (control_told w)) ++ edges_of body) 0) ≡ true
        → (list_all (bytes_eq n) (over clocks_told body) ≡ true → is_some (slice_get (edges_of body) 0) ≡ true → n ≢ codes "NIL") → n ≢ codes "NIL"
    at (inputs names) s h e rest = rest s e
    at (outputs names) s h e rest = rest s e
    at (clock names) s h e rest = rest (after (bytes_eq n) names (over clocks_told body) s) e
    at (gate pins name cover) s h e rest = rest s e
    at (latch next name init None) s h e rest = rest s e
    at (latch next name init (Some control)) s h e rest =
        λ nil.
        let is : n ≡ control.name = same_name n control.name (and_parts (bytes_eq n control.name) (list_all (bytes_eq n) (over clocks_told body)) s).0 in
        let told : bytes_eq control.name (codes "NIL") ≡ true = subst (λ x. bytes_eq x (codes "NIL") ≡ true) (sym nil ∙ is) (itself (codes "NIL")) in
        both_ways (bytes_eq control.name (codes "NIL")) h told
    at (place placed bindings) s h e rest = rest s e

-- the first clock is that of all
pub all_clocks : (n : List ℕ) (xs : List (List ℕ)) → AreSame xs → slice_get xs 0 ≡ Some n → list_all (bytes_eq n) xs ≡ true
all_clocks n [] h e = refl
all_clocks n (x ∷ xs) h e =
    let is : x ≡ n = cc in
    subst (λ m. (bytes_eq m x && list_all (bytes_eq m) xs) ≡ true) is (ap (λ b. b && list_all (bytes_eq x) xs) (itself x) ∙ h)

pub first_declared : (n : List ℕ) (xs : List (List ℕ)) → slice_get xs 0 ≡ Some n → list_any (bytes_eq n) xs ≡ true
first_declared n [] e = cc
first_declared n (x ∷ xs) e = let is : x ≡ n = cc in subst (λ m. (bytes_eq m x || list_any (bytes_eq m) xs) ≡ true) is (ap (λ b. b || list_any (bytes_eq x) xs) (itself x))
