-- The first two words are names, and each word after them has two sides.
use Rattle.std.proofs.Common.{◌≡◌, ◌||◌, List, ℕ, Bool, true, false, Bor, length, nat_lt, map, take, drop, min, refl, sym, ap, ◌∙◌, ◌++◌, arith}
use Rattle.std.specs.List.{list_any, flat_map}
use Rattle.std.proofs.lemmas.List.{take-map, drop-map, take_min, drop_min}
use Rattle.std.proofs.lemmas.List.Folds.{list_any-append}
use Rattle.blif_lex.specs.Words.{sides_of, names_in, places_model}
use Rattle.blif_lex.proofs.Lists.{list_any-flat_map}
use Rattle.blif_lex.proofs.rules.has_long_name.Goals as goal

names_in-bound : (bindings : Bool) (ws : List (List ℕ)) → bindings ≡ true → places_model ws ≡ true → names_in bindings ws ≡ take 2 ws ++ flat_map sides_of (drop 2 ws)
names_in-bound bindings ws b p = rw (b, p) refl

first_two : (line : List (Bor (List ℕ))) → map (λ w. w.now) (take (min (length line) 2) line) ≡ take 2 (map (λ w. w.now) line)
first_two line =
    let e : min (length line) 2 ≡ min 2 (length line) = omega arith in
    ap (λ n. map (λ (w : Bor (List ℕ)). w.now) (take n line)) e ∙ ap (map (λ (w : Bor (List ℕ)). w.now)) (take_min 2 line) ∙ sym (take-map (λ (w : Bor (List ℕ)). w.now) 2 line)

after_two : (line : List (Bor (List ℕ))) → map (λ w. w.now) (drop (min (length line) 2) line) ≡ drop 2 (map (λ w. w.now) line)
after_two line =
    let e : min (length line) 2 ≡ min 2 (length line) = omega arith in
    ap (λ n. map (λ (w : Bor (List ℕ)). w.now) (drop n line)) e ∙ ap (map (λ (w : Bor (List ℕ)). w.now)) (drop_min 2 line) ∙ sym (drop-map (λ (w : Bor (List ℕ)). w.now) 2 line)

-- what the code tests in two parts
parts : (test : List ℕ → Bool) (bindings : Bool) (line : List (Bor (List ℕ))) (n : ℕ) → n ≡ min (length line) 2 → bindings ≡ true → places_model (map (λ w. w.now) line) ≡ true
    → list_any test (map (λ w. w.now) (take n line)) ≡ false
    → list_any test (names_in bindings (map (λ w. w.now) line)) ≡ list_any (λ w. list_any test (sides_of w)) (map (λ w. w.now) (drop n line))
parts test bindings line n e b p none =
    let ws = map (λ (w : Bor (List ℕ)). w.now) line in
    let front : map (λ (w : Bor (List ℕ)). w.now) (take n line) ≡ take 2 ws = rw e (first_two line) in
    let back : map (λ (w : Bor (List ℕ)). w.now) (drop n line) ≡ drop 2 ws = rw e (after_two line) in
    ap (list_any test) (names_in-bound bindings ws b p)
    ∙ list_any-append test (take 2 ws) (flat_map sides_of (drop 2 ws))
    ∙ ap (λ v. v || list_any test (flat_map sides_of (drop 2 ws))) (ap (list_any test) (sym front) ∙ none)
    ∙ list_any-flat_map test sides_of (drop 2 ws)
    ∙ ap (list_any (λ w. list_any test (sides_of w))) (sym back)

pub returns-else-has_long_word : goal.returns-else-has_long_word
returns-else-has_long_word c =
    let test = λ (n : List ℕ). nat_lt c.args.name (length n) in
    let bound : c.args.bindings ≡ true = grind arith in
    let placed : places_model (map (λ w. w.now) c.args.line.now) ≡ true = cc in
    let none : list_any test (map (λ w. w.now) (take c.min.result c.args.line.now)) ≡ false = rw (← c.split_at.ensures.front) (sym c.has_long_word-2.ensures ∙ c.if-has_long_word.false) in
    c.has_long_binding.ensures ∙ rw c.split_at.ensures.back (sym (parts test c.args.bindings c.args.line.now c.min.result c.min.ensures bound placed none))
