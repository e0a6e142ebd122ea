-- The circuit that lawful lines spell is sound, unless gates read one another in a circle.
use Rattle.std.proofs.Common.{◌≡◌, ◌≢◌, ℕ, zero, suc, ◌+◌, ◌^◌, ◌<◌, ◌≤◌, true, List, [], ◌∷◌, ◌++◌, map, length, take, drop, Option, refl, sym, ◌∙◌, ap, ap₂, subst, arith}
use Rattle.std.specs.Prelude.{AllPairs, IfSome, codes}
use Rattle.std.specs.List.{AllByRecursion, range_with_len}
use Rattle.std.proofs.lemmas.List.{length-take, length-drop}
use Rattle.std.proofs.lemmas.List.FromFn.{length-range_with_len, get_or-range_with_len}
use Rattle.std.proofs.lemmas.List.Elements.{All-from_recursion}
use Rattle.tm_circuit.specs.Plain.{greatest}
use Rattle.tm_circuit.specs.Sound as sound
use Rattle.tm_circuit.specs.Sound.{ReadsBelow, FitsPins}
use Rattle.aiger_read.specs.declared.header.Header.{Header}
use Rattle.aiger_read.specs.declared.statement.LatchLine.{LatchLine}
use Rattle.aiger_read.specs.declared.statement.AndLine.{AndLine}
use Rattle.aiger_read.specs.Statements.{variable_of}
use Rattle.aiger_read.specs.Names.{is_usable, used, run_in, joiner_for, made_name, input_names, latch_names}
use Rattle.aiger_read.specs.Circuit.{Sections, variables_of, made_nexts, gate_names, circuit_with}
use Rattle.aiger_read.specs.Making.{IsLaid, IsSaid, signal_count, times_in}
use Rattle.aiger_read.proofs.TallyLemmas.{tally, StandOnce, pairs_differ}
use Rattle.aiger_read.proofs.NameLemmas.{Numbered, spelled, joiner_of, five_once}
use Rattle.aiger_read.proofs.NamingLemmas.{numbered, numbers, somes, made_places, AreUsable, from-spelled, map-spelled, made-spelled, names-numbered, names-numbers, are-numbered, are-numbers, places-once, places-small, greatest-usable, runs-greatest, all-take, all-drop, tally-parts, small-numbered, small-numbers, spelled_all, made_lawful, made_short, usable_lawful, usable-parts, usable-numbered, usable-numbers, used_usable, used_once, used-length}
use Rattle.aiger_read.proofs.DriveLemmas.{IsFine, both, drives_of, drives-count, drives_fine}
use Rattle.aiger_read.proofs.BodyLemmas.{times_in-append}

-- ---- what is needed of the names and the lines

pub record AreNamed (most : ℕ) (h : Header) (names : List (Option (List ℕ))) (s : Sections) : Type 0 where
  pub said : IsSaid h s names
  pub usable : AreUsable most names
  pub once : (n : List ℕ) → tally n (somes names) ≤ 1

pub are_named : (most : ℕ) (h : Header) (given : List (Option (List ℕ))) (s : Sections) → IsSaid h s given → AreNamed most h (used most given) s
are_named most h given s is = record {
  said = record {
    counts = is.counts;
    inputs = is.inputs;
    latches = is.latches;
    outputs = is.outputs;
    ands = is.ands;
    once = is.once;
    small = is.small;
    sized = used-length most given ∙ is.sized;
  };
  usable = used_usable most given;
  once = used_once most given;
}

abbrev ands_of : Sections → List ℕ
ands_of s = map (λ a. variable_of a.literal) s.ands

all_last : {X : Type 0} (P : X → Type 0) (xs ys : List X) → AllByRecursion P (xs ++ ys) → AllByRecursion P ys
all_last P [] ys all = all
all_last P (x ∷ xs) ys all = all_last P xs ys all.1

map-map : {A B C : Type 0} (f : B → C) (g : A → B) (xs : List A) → map f (map g xs) ≡ map (λ x. f (g x)) xs
map-map f g [] = refl
map-map f g (x ∷ xs) = ap (λ ys. f (g x) ∷ ys) (map-map f g xs)

abbrev top : List (Option (List ℕ)) → ℕ
top names = greatest (map run_in names)

abbrev ins : Header → List (Option (List ℕ)) → List Numbered
ins h names = numbered 0 (take h.inputs names)

abbrev las : Header → List (Option (List ℕ)) → List Numbered
las h names = numbered 0 (drop (h.inputs + h.outputs) names)

abbrev ans : Sections → List Numbered
ans s = numbers (map (λ a. variable_of a.literal) s.ands)

abbrev xs_of : Sections → List Numbered
xs_of s = numbers (made_places 0 s.latches)

abbrev outs : Header → List (Option (List ℕ)) → List Numbered
outs h names = numbered 0 (take h.outputs (drop h.inputs names))

-- the names of the circuit
abbrev pub names_of : Header → List (Option (List ℕ)) → Sections → List (List ℕ)
names_of h names s = input_names h (joiner_for names) names ++ latch_names h (joiner_for names) names ++ gate_names h (joiner_for names) names s

-- the same, as names of numbers
as_spelled : (h : Header) (names : List (Option (List ℕ))) (s : Sections)
    → names_of h names s ≡ (spelled (top names) 105 (ins h names) ++ spelled (top names) 108 (las h names))
    ++ ((spelled (top names) 97 (ans s) ++ spelled (top names) 120 (xs_of s)) ++ spelled (top names) 111 (outs h names))
as_spelled h names s =
    let g : ℕ = top names in
    let e1 = from-spelled g 105 0 (take h.inputs names) in
    let e2 = from-spelled g 108 0 (drop (h.inputs + h.outputs) names) in
    let e3 : map (λ (a : AndLine). made_name (joiner_of (top names)) 97 (variable_of a.literal)) s.ands ≡ spelled (top names) 97 (ans s) =
    sym (map-map (λ v. made_name (joiner_of (top names)) 97 v) (λ (a : AndLine). variable_of a.literal) s.ands) ∙ map-spelled (top names) 97 (map (λ (a : AndLine). variable_of a.literal) s.ands) in
    let e4 = made-spelled g 0 s.latches in
    let e5 = from-spelled g 111 0 (take h.outputs (drop h.inputs names)) in
    ap₂ (λ (p q : List (List ℕ)). p ++ q) (ap₂ (λ (p q : List (List ℕ)). p ++ q) e1 e2)
    (ap₂ (λ (p q : List (List ℕ)). p ++ q) (ap₂ (λ (p q : List (List ℕ)). p ++ q) e3 e4) e5)

letter_byte : (b : ℕ) → 97 ≤ b → b ≤ 122 → sound.IsNameByte b
letter_byte b from to = (omega arith, omega arith, λ e. omega arith, λ e. omega arith)

take_few : (n : ℕ) (names : List (Option (List ℕ))) → length (take n names) ≤ n
take_few n names = let e = length-take n names in omega (arith, e)

latch_few : (most : ℕ) (h : Header) (names : List (Option (List ℕ))) (s : Sections) → AreNamed most h names s → length (drop (h.inputs + h.outputs) names) ≤ 4294967295
latch_few most h names s ready =
    let e = length-drop (h.inputs + h.outputs) names in
    let sized = ready.said.sized in
    let few = ready.said.counts.latches in
    omega (arith, e, sized, few)

ands_small : (s : Sections) → AllByRecursion (λ v. v < 2 ^ 32) (variables_of s) → AllByRecursion (λ v. v < 2 ^ 32) (map (λ a. variable_of a.literal) s.ands)
ands_small s small = all_last (λ v. v < 2 ^ 32) (map variable_of s.inputs ++ map (λ (l : LatchLine). variable_of l.literal) s.latches) (map (λ (a : AndLine). variable_of a.literal) s.ands) small

ands_once : (s : Sections) → ((m : ℕ) → times_in m (variables_of s) ≤ 1) → (m : ℕ) → times_in m (map (λ a. variable_of a.literal) s.ands) ≤ 1
ands_once s once m =
    let e = times_in-append m (map variable_of s.inputs ++ map (λ (l : LatchLine). variable_of l.literal) s.latches) (map (λ (a : AndLine). variable_of a.literal) s.ands) in
    let all = once m in
    omega (arith, e, all)

names_once : (most : ℕ) (h : Header) (names : List (Option (List ℕ))) (s : Sections) → AreNamed most h names s → StandOnce (names_of h names s)
names_once most h names s ready =
    let g : ℕ = top names in
    let runs : AllByRecursion (λ o. run_in o ≤ top names) names = runs-greatest (top names) names (omega arith) in
    let latch_names_few = latch_few most h names s ready in
    let input_count = ready.said.counts.inputs in
    let output_count = ready.said.counts.outputs in
    let latch_count = ready.said.counts.latches in
    let latch_lines = ready.said.latches in
    let input_few = take_few h.inputs names in
    let output_few = take_few h.outputs (drop h.inputs names) in
    subst StandOnce (sym (as_spelled h names s))
    (five_once g (ins h names) (las h names) (ans s) (xs_of s) (outs h names)
    (are-numbered g (take h.inputs names) (omega (arith, input_few, input_count)) (all-take (λ o. run_in o ≤ top names) h.inputs names runs))
    (are-numbered g (drop (h.inputs + h.outputs) names) (omega (arith, latch_names_few)) (all-drop (λ o. run_in o ≤ top names) (h.inputs + h.outputs) names runs))
    (are-numbers g (map (λ (a : AndLine). variable_of a.literal) s.ands) (ands_small s ready.said.small) (ands_once s ready.said.once))
    (are-numbers g (made_places 0 s.latches) (places-small 0 s.latches (omega (arith, latch_lines, latch_count))) (λ m. places-once m 0 s.latches))
    (are-numbered g (take h.outputs (drop h.inputs names)) (omega (arith, output_few, output_count)) (all-take (λ o. run_in o ≤ top names) h.outputs (drop h.inputs names) (all-drop (λ o. run_in o ≤ top names) h.inputs names runs)))
    (λ n.
    let t1 = ap (tally n) (names-numbered 0 (take h.inputs names)) in
    let t2 = ap (tally n) (names-numbered 0 (drop (h.inputs + h.outputs) names)) in
    let t3 = ap (tally n) (names-numbers (map (λ (a : AndLine). variable_of a.literal) s.ands)) in
    let t4 = ap (tally n) (names-numbers (made_places 0 s.latches)) in
    let t5 = ap (tally n) (names-numbered 0 (take h.outputs (drop h.inputs names))) in
    let parts = tally-parts n h.inputs h.outputs names in
    let all = ready.once n in
    omega (arith, t1, t2, t3, t4, t5, parts, all)))

-- What holds of names that can be used and of made names holds of each name.
pub names_all : (P : List ℕ → Type 0) (most : ℕ) (h : Header) (names : List (Option (List ℕ))) (s : Sections) → AreNamed most h names s
    → ((letter m : ℕ) → sound.IsNameByte letter → m < 2 ^ 32 → P (made_name (joiner_of (top names)) letter m)) → ((n : List ℕ) → is_usable most n ≡ true → P n)
    → AllByRecursion P (names_of h names s)
names_all P most h names s ready made use_ =
    let latch_names_few = latch_few most h names s ready in
    let input_count = ready.said.counts.inputs in
    let output_count = ready.said.counts.outputs in
    let latch_count = ready.said.counts.latches in
    let latch_lines = ready.said.latches in
    let input_few = take_few h.inputs names in
    let output_few = take_few h.outputs (drop h.inputs names) in
    let U : Option (List ℕ) → Type 0 = λ o. IfSome o (λ n. is_usable most n ≡ true) in
    let fi = spelled_all P most (top names) 105 (ins h names) (λ m. made 105 m (letter_byte 105 (omega arith) (omega arith))) use_
    (small-numbered 0 (take h.inputs names) (omega (arith, input_few, input_count))) (usable-numbered most 0 (take h.inputs names) (all-take U h.inputs names ready.usable)) in
    let fl = spelled_all P most (top names) 108 (las h names) (λ m. made 108 m (letter_byte 108 (omega arith) (omega arith))) use_
    (small-numbered 0 (drop (h.inputs + h.outputs) names) (omega (arith, latch_names_few))) (usable-numbered most 0 (drop (h.inputs + h.outputs) names) (all-drop U (h.inputs + h.outputs) names ready.usable)) in
    let fa = spelled_all P most (top names) 97 (ans s) (λ m. made 97 m (letter_byte 97 (omega arith) (omega arith))) use_
    (small-numbers (map (λ (a : AndLine). variable_of a.literal) s.ands) (ands_small s ready.said.small)) (usable-numbers most (map (λ (a : AndLine). variable_of a.literal) s.ands)) in
    let fx = spelled_all P most (top names) 120 (xs_of s) (λ m. made 120 m (letter_byte 120 (omega arith) (omega arith))) use_
    (small-numbers (made_places 0 s.latches) (places-small 0 s.latches (omega (arith, latch_lines, latch_count)))) (usable-numbers most (made_places 0 s.latches)) in
    let fo = spelled_all P most (top names) 111 (outs h names) (λ m. made 111 m (letter_byte 111 (omega arith) (omega arith))) use_
    (small-numbered 0 (take h.outputs (drop h.inputs names)) (omega (arith, output_few, output_count)))
    (usable-numbered most 0 (take h.outputs (drop h.inputs names)) (all-take U h.outputs (drop h.inputs names) (all-drop U h.inputs names ready.usable))) in
    subst (AllByRecursion P) (sym (as_spelled h names s))
    (both P (spelled (top names) 105 (ins h names) ++ spelled (top names) 108 (las h names)) ((spelled (top names) 97 (ans s) ++ spelled (top names) 120 (xs_of s)) ++ spelled (top names) 111 (outs h names))
    (both P (spelled (top names) 105 (ins h names)) (spelled (top names) 108 (las h names)) fi fl)
    (both P (spelled (top names) 97 (ans s) ++ spelled (top names) 120 (xs_of s)) (spelled (top names) 111 (outs h names)) (both P (spelled (top names) 97 (ans s)) (spelled (top names) 120 (xs_of s)) fa fx) fo))

names_lawful : (most : ℕ) (h : Header) (names : List (Option (List ℕ))) (s : Sections) → AreNamed most h names s → most ≤ 1023 → AllByRecursion sound.IsName (names_of h names s)
names_lawful most h names s ready limit =
    let short : top names ≤ 16 = greatest-usable most names ready.usable in
    names_all sound.IsName most h names s ready (λ letter m byte small. made_lawful (top names) letter m short byte small) (λ n is. usable_lawful most n limit is)

-- Where made names keep the limit, all names do.
pub names_short : (most : ℕ) (h : Header) (names : List (Option (List ℕ))) (s : Sections) → AreNamed most h names s → 28 ≤ most → AllByRecursion (λ n. length n ≤ most) (names_of h names s)
names_short most h names s ready room =
    let short : top names ≤ 16 = greatest-usable most names ready.usable in
    names_all (λ n. length n ≤ most) most h names s ready
    (λ letter m byte small. let e = made_short (top names) letter m short small in omega (arith, e, room)) (λ n is. (usable-parts most n is).short)

-- ---- the whole

weaker : {X : Type 0} (P Q : X → Type 0) (f : (x : X) → P x → Q x) (xs : List X) → AllByRecursion P xs → AllByRecursion Q xs
weaker P Q f [] all = tt
weaker P Q f (x ∷ xs) all = (f x all.0, weaker P Q f xs all.1)

range_below : (a n m : ℕ) → a + n ≤ m → AllByRecursion (λ k. k < m) (range_with_len a n)
range_below a zero m fits = tt
range_below a (suc n) m fits = (omega (arith, fits), range_below (a + 1) n m (omega (arith, fits)))

range_differs : (a n : ℕ) → AllPairs (λ p q. p ≢ q) (range_with_len a n)
range_differs a n i j d less inside = λ same.
    let size = length-range_with_len a n in
    let ei = get_or-range_with_len a n i d (omega (arith, size, inside, less)) in
    let ej = get_or-range_with_len a n j d (omega (arith, size, inside)) in
    omega (arith, same, ei, ej, less)

aiger : sound.IsName (codes "aiger")
aiger = record {
  some = omega arith;
  short = omega arith;
  lawful = All-from_recursion sound.IsNameByte (codes "aiger") (
    letter_byte 97 (omega arith) (omega arith),
    (letter_byte 105 (omega arith) (omega arith), (letter_byte 103 (omega arith) (omega arith), (letter_byte 101 (omega arith) (omega arith), (letter_byte 114 (omega arith) (omega arith), tt)))),
  );
}

pub laid : (most : ℕ) (h : Header) (names : List (Option (List ℕ))) (s : Sections) → AreNamed most h names s → most ≤ 1023 → signal_count s ≤ 900000
    → IsLaid (circuit_with h (joiner_for names) names s)
laid most h names s ready limit few =
    let count = drives-count s in
    let n : ℕ = signal_count s in
    let fine : AllByRecursion (IsFine (length (drives_of s))) (drives_of s) = subst (λ k. AllByRecursion (IsFine k) (drives_of s)) (sym count) (drives_fine s) in
    record {
      few = omega (arith, count, few);
      range = record {
        reads = All-from_recursion (ReadsBelow (length (drives_of s))) (drives_of s) (weaker (IsFine (length (drives_of s))) (ReadsBelow (length (drives_of s))) (λ d f. f.reads) (drives_of s) fine);
        pins = All-from_recursion FitsPins (drives_of s) (weaker (IsFine (length (drives_of s))) FitsPins (λ d f. f.pins) (drives_of s) fine);
        outputs = All-from_recursion (λ k. k < length (drives_of s)) (range_with_len (length (variables_of s) + length (made_nexts s.latches)) (length s.outputs))
            (range_below (length (variables_of s) + length (made_nexts s.latches)) (length s.outputs) (length (drives_of s)) (omega (arith, count)));
        clock = tt;
      };
      names = record {
        model = aiger;
        signals = All-from_recursion sound.IsName (names_of h names s) (names_lawful most h names s ready limit);
        clock = tt;
      };
      distinct = pairs_differ (names_of h names s ++ []) (subst StandOnce (sym (no_more (names_of h names s))) (names_once most h names s ready));
      outputs = range_differs (length (variables_of s) + length (made_nexts s.latches)) (length s.outputs);
    }
  where
    no_more : (xs : List (List ℕ)) → xs ++ [] ≡ xs
    no_more [] = refl
    no_more (y ∷ ys) = ap (λ zs. y ∷ zs) (no_more ys)
