-- Steps of the loops that make names and parts: what one item more adds.
use Rattle.std.proofs.Common.{◌≡◌, ℕ, zero, suc, ◌+◌, ◌<◌, ◌≤◌, Bool, true, false, cond, List, [], ◌∷◌, ◌++◌, map, length, take, drop, get_or, replicate, Option, None, Some, Bor, max, inl, inr, not, position, refl, ◌∙◌, ap, arith}
use Rattle.std.specs.Prelude.{unwrap_or, option_map, option_to_list}
use Rattle.std.specs.List.{position_or_len, range_with_len}
use Rattle.std.proofs.lemmas.Bool.{cases_lt, lt-ltb, le-ltb}
use Rattle.std.proofs.lemmas.List.{map-append, map_more, drop_more, take_more, take_all}
use Rattle.std.proofs.lemmas.List.Sums.{prefix_len-le-length}
use Rattle.tm_circuit.specs.Plain.{latch, greatest}
use Rattle.aiger_read.specs.declared.statement.LatchLine.{LatchLine}
use Rattle.aiger_read.specs.Statements.{variable_of}
use Rattle.aiger_read.specs.Names.{percent, used_one, used_after, used, run_in, joiner_for, made_name, names_from}
use Rattle.aiger_read.specs.Circuit.{signal_in, is_made, latch_drives, made_names, made_nexts}
use Rattle.aiger_read.specs.Steps.{maybe_texts}
use Rattle.aiger_read.proofs.SectionLemmas.{range-append}

-- the name that a slice is
abbrev pub text_of : Option (Bor (List ℕ)) → Option (List ℕ)
text_of name = option_map (λ w. w.now) name

pub texts-push : (names : List (Option (Bor (List ℕ)))) (name : Option (Bor (List ℕ))) → maybe_texts (names ++ name ∷ []) ≡ maybe_texts names ++ text_of name ∷ []
texts-push names name = map-append text_of names (name ∷ [])

-- ---- names that are used

pub used_none : (most : ℕ) (names : List (Option (List ℕ))) → used most names ≡ used_after most [] names
unfolding used
used_none most names = refl

pub used_more : (most i : ℕ) (names : List (Option (Bor (List ℕ)))) (d : Option (Bor (List ℕ))) (seen : List (List ℕ)) → i < length names
    → used_after most seen (maybe_texts (drop i names)) ≡ used_one most seen (text_of (get_or names i d))
    ∷ used_after most (seen ++ option_to_list (used_one most seen (text_of (get_or names i d)))) (maybe_texts (drop (i + 1) names))
used_more most i names d seen inside = ap (λ xs. used_after most seen (maybe_texts xs)) (drop_more names i d inside)

-- ---- the longest run

greatest-push : (xs : List ℕ) (y : ℕ) → greatest (xs ++ y ∷ []) ≡ max y (greatest xs)
greatest-push [] y = refl
greatest-push (x ∷ xs) y = let ih = greatest-push xs y in omega (arith, ih)

pub run_more : (names : List (Option (Bor (List ℕ)))) (i : ℕ) (d : Option (Bor (List ℕ))) → i < length names
    → greatest (map run_in (maybe_texts (take (i + 1) names))) ≡ max (run_in (text_of (get_or names i d))) (greatest (map run_in (maybe_texts (take i names))))
run_more names i d inside =
    ap (λ xs. greatest (map run_in (maybe_texts xs))) (take_more names i d inside)
    ∙ ap (λ xs. greatest (map run_in xs)) (texts-push (take i names) (get_or names i d))
    ∙ ap greatest (map-append run_in (maybe_texts (take i names)) (text_of (get_or names i d) ∷ []))
    ∙ greatest-push (map run_in (maybe_texts (take i names))) (run_in (text_of (get_or names i d)))

pub run_all : (names : List (Option (Bor (List ℕ)))) (i : ℕ) → length names ≤ i → greatest (map run_in (maybe_texts (take i names))) ≡ greatest (map run_in (maybe_texts names))
run_all names i past = ap (λ xs. greatest (map run_in (maybe_texts xs))) (take_all i names past)

pub joiner_is : (names : List (Option (List ℕ))) (longest : ℕ) → longest ≡ greatest (map run_in names) → replicate (longest + 1) percent ≡ joiner_for names
joiner_is names longest is = ap (λ n. replicate n percent) (let e : longest + 1 ≡ suc (greatest (map run_in names)) = omega (arith, is) in e)

-- ---- names from a place on

pub from_more : (joiner : List ℕ) (letter place : ℕ) (names : List (Option (Bor (List ℕ)))) (d : Option (Bor (List ℕ))) → place < length names
    → names_from joiner letter place (maybe_texts (drop place names)) ≡ unwrap_or (text_of (get_or names place d)) (made_name joiner letter place)
    ∷ names_from joiner letter (place + 1) (maybe_texts (drop (place + 1) names))
from_more joiner letter place names d inside =
    ap (λ xs. names_from joiner letter place (maybe_texts xs)) (drop_more names place d inside)
    ∙ ap (λ n. unwrap_or (text_of (get_or names place d)) (made_name joiner letter place) ∷ names_from joiner letter n (maybe_texts (drop (place + 1) names))) (let e : suc place ≡ place + 1 = omega arith in e)

-- ---- latches

pub latch_more : (variables : List ℕ) (made place : ℕ) (latches : List LatchLine) (d : LatchLine) → place < length latches
    → latch_drives variables made (drop place latches)
    ≡ latch (cond (is_made (get_or latches place d).next) made (signal_in variables (variable_of (get_or latches place d).next))) (get_or latches place d).reset
    ∷ latch_drives variables (cond (is_made (get_or latches place d).next) (made + 1) made) (drop (place + 1) latches)
latch_more variables made place latches d inside =
    ap (latch_drives variables made) (drop_more latches place d inside) ∙ by_test (is_made (get_or latches place d).next)
  where
    by_test : (b : Bool)
        → cond b (latch made (get_or latches place d).reset ∷ latch_drives variables (suc made) (drop (place + 1) latches))
        (latch (signal_in variables (variable_of (get_or latches place d).next)) (get_or latches place d).reset ∷ latch_drives variables made (drop (place + 1) latches))
        ≡ latch (cond b made (signal_in variables (variable_of (get_or latches place d).next))) (get_or latches place d).reset
        ∷ latch_drives variables (cond b (made + 1) made) (drop (place + 1) latches)
    by_test true = ap (λ n. latch made (get_or latches place d).reset ∷ latch_drives variables n (drop (place + 1) latches)) (let e : suc made ≡ made + 1 = omega arith in e)
    by_test false = refl

-- ---- gates that are made for latches

pub made_here : (joiner : List ℕ) (place : ℕ) (latches : List LatchLine) (d : LatchLine) → place < length latches → is_made (get_or latches place d).next ≡ true
    → made_names joiner place (drop place latches) ≡ made_name joiner 120 place ∷ made_names joiner (place + 1) (drop (place + 1) latches)
made_here joiner place latches d inside is =
    ap (made_names joiner place) (drop_more latches place d inside)
    ∙ ap (λ b. cond b (made_name joiner 120 place ∷ made_names joiner (suc place) (drop (place + 1) latches)) (made_names joiner (suc place) (drop (place + 1) latches))) is
    ∙ ap (λ n. made_name joiner 120 place ∷ made_names joiner n (drop (place + 1) latches)) (let e : suc place ≡ place + 1 = omega arith in e)

pub made_not : (joiner : List ℕ) (place : ℕ) (latches : List LatchLine) (d : LatchLine) → place < length latches → is_made (get_or latches place d).next ≡ false
    → made_names joiner place (drop place latches) ≡ made_names joiner (place + 1) (drop (place + 1) latches)
made_not joiner place latches d inside is =
    ap (made_names joiner place) (drop_more latches place d inside)
    ∙ ap (λ b. cond b (made_name joiner 120 place ∷ made_names joiner (suc place) (drop (place + 1) latches)) (made_names joiner (suc place) (drop (place + 1) latches))) is
    ∙ ap (λ n. made_names joiner n (drop (place + 1) latches)) (let e : suc place ≡ place + 1 = omega arith in e)

pub nexts_here : (place : ℕ) (latches : List LatchLine) (d : LatchLine) → place < length latches → is_made (get_or latches place d).next ≡ true
    → made_nexts (drop place latches) ≡ (get_or latches place d).next ∷ made_nexts (drop (place + 1) latches)
nexts_here place latches d inside is =
    ap made_nexts (drop_more latches place d inside)
    ∙ ap (λ b. cond b ((get_or latches place d).next ∷ made_nexts (drop (place + 1) latches)) (made_nexts (drop (place + 1) latches))) is

pub nexts_not : (place : ℕ) (latches : List LatchLine) (d : LatchLine) → place < length latches → is_made (get_or latches place d).next ≡ false
    → made_nexts (drop place latches) ≡ made_nexts (drop (place + 1) latches)
nexts_not place latches d inside is =
    ap made_nexts (drop_more latches place d inside)
    ∙ ap (λ b. cond b ((get_or latches place d).next ∷ made_nexts (drop (place + 1) latches)) (made_nexts (drop (place + 1) latches))) is

-- ---- signals, pins and counts

pub range_more : (a n : ℕ) → range_with_len a (n + 1) ≡ range_with_len a n ++ (a + n) ∷ []
range_more a n = range-append a n 1

pub pins_more : (variables literals : List ℕ) (i d : ℕ) → i < length literals
    → map (λ literal. signal_in variables (variable_of literal)) (take (i + 1) literals)
    ≡ map (λ literal. signal_in variables (variable_of literal)) (take i literals) ++ signal_in variables (variable_of (get_or literals i d)) ∷ []
pins_more variables literals i d inside = map_more (λ literal. signal_in variables (variable_of literal)) literals i d inside

-- the place of the first that passes, or the length where none does
pub found_or_length : {X : Type 0} (p : X → Bool) (xs : List X) → unwrap_or (position p xs) (length xs) ≡ position_or_len p xs
found_or_length p xs = elim (cases_lt (position_or_len p xs) (length xs)) [
  | inl below ↦ ap (λ b. unwrap_or (cond b (Some (position_or_len p xs)) None) (length xs)) (lt-ltb (position_or_len p xs) (length xs) below)
  | inr past ↦
      let most = prefix_len-le-length (λ x. not (p x)) xs in
      let same : length xs ≡ position_or_len p xs = omega (arith, past, most) in
      ap (λ b. unwrap_or (cond b (Some (position_or_len p xs)) None) (length xs)) (le-ltb (position_or_len p xs) (length xs) past) ∙ same
]

pub none_more : (n : ℕ) → maybe_texts (replicate n None) ≡ replicate n None
none_more zero = refl
none_more (suc n) = ap (λ xs. None ∷ xs) (none_more n)
