-- Runs of a byte: how long the longest is, and the loops that measure it.
use Rattle.std.proofs.Common.{◌≡◌, ℕ, zero, suc, ◌+◌, ◌<◌, ◌≤◌, Bool, true, false, cond, eqb, max, inl, inr, List, [], ◌∷◌, ◌++◌, map, length, take, drop, get_or, replicate, Some, slice_get, refl, sym, ◌∙◌, ap, subst, append_assoc, length-append, eq-eqb, arith}
use Rattle.std.specs.Prelude.{All, ◌↔◌}
use Rattle.std.proofs.lemmas.List.{length-replicate, replicate_more, drop_more, drop_all, take_all, map-append, map_more}
use Rattle.std.proofs.lemmas.Option.{get_or_from_slice_get, slice_get_within}
use Rattle.std.proofs.lemmas.Bool.{ne_eqb, eqb-true, cases_lt}
use Rattle.std.proofs.lemmas.List.Elements.{All-head, All-tail, All-replicate}
use Rattle.tm_circuit.specs.Plain.{greatest}
use Rattle.tm_parts.specs.Runs.{HasRunsWithin, leading_run, longest_run}

module _ (wanted : ℕ) where
  -- ---- what a run is part of

  pub leading_more : (rest : List ℕ) → leading_run wanted (wanted ∷ rest) ≡ suc (leading_run wanted rest)
  leading_more rest = ap (λ b. cond b (suc (leading_run wanted rest)) 0) (eq-eqb wanted wanted refl)

  leading_least : (n : ℕ) (rest : List ℕ) → n ≤ leading_run wanted (replicate n wanted ++ rest)
  leading_least zero rest = omega arith
  leading_least (suc n) rest =
      let more : n ≤ leading_run wanted (replicate n wanted ++ rest) = leading_least n rest in
      let is : leading_run wanted (wanted ∷ (replicate n wanted ++ rest)) ≡ suc (leading_run wanted (replicate n wanted ++ rest)) = leading_more (replicate n wanted ++ rest) in
      subst (λ (m : ℕ). suc n ≤ m) (sym is) (omega arith)

  leading_first : (text : List ℕ) → leading_run wanted text ≤ longest_run wanted text
  leading_first [] = omega arith
  leading_first (byte ∷ rest) = omega arith

  run_least : (n : ℕ) (rest : List ℕ) → n ≤ longest_run wanted (replicate n wanted ++ rest)
  run_least n rest =
      let more : n ≤ leading_run wanted (replicate n wanted ++ rest) = leading_least n rest in
      let first : leading_run wanted (replicate n wanted ++ rest) ≤ longest_run wanted (replicate n wanted ++ rest) = leading_first (replicate n wanted ++ rest) in
      omega arith

  longest_later : (front rest : List ℕ) → longest_run wanted rest ≤ longest_run wanted (front ++ rest)
  longest_later [] rest = omega arith
  longest_later (byte ∷ front) rest =
      let more : longest_run wanted rest ≤ longest_run wanted (front ++ rest) = longest_later front rest in
      omega arith

  -- A name with a run in it has a longest run that is at least as long.
  pub run_within : (front : List ℕ) (n : ℕ) (rest : List ℕ) → n ≤ longest_run wanted (front ++ (replicate n wanted ++ rest))
  run_within front n rest =
      let here : n ≤ longest_run wanted (replicate n wanted ++ rest) = run_least n rest in
      let there : longest_run wanted (replicate n wanted ++ rest) ≤ longest_run wanted (front ++ (replicate n wanted ++ rest)) = longest_later front (replicate n wanted ++ rest) in
      omega arith

  leading_by : (test : Bool) (rest n : ℕ) → rest ≤ n → cond test (suc rest) 0 ≤ suc n
  leading_by true rest n less = omega arith
  leading_by false rest n less = omega arith

  leading_most : (name : List ℕ) → leading_run wanted name ≤ length name
  leading_most [] = omega arith
  leading_most (byte ∷ rest) = leading_by (eqb byte wanted) (leading_run wanted rest) (length rest) (leading_most rest)

  pub longest_most : (name : List ℕ) → longest_run wanted name ≤ length name
  longest_most [] = omega arith
  longest_most (byte ∷ rest) =
      let here : leading_run wanted (byte ∷ rest) ≤ length (byte ∷ rest) = leading_most (byte ∷ rest) in
      let later : longest_run wanted rest ≤ length rest = longest_most rest in
      omega arith

  -- ---- the loop over the bytes of a name

  leading_other : (n byte : ℕ) (rest : List ℕ) → eqb byte wanted ≡ false → leading_run wanted (replicate n wanted ++ byte ∷ rest) ≡ n
  leading_other zero byte rest other = ap (λ b. cond b (suc (leading_run wanted rest)) 0) other
  leading_other (suc n) byte rest other = leading_more (replicate n wanted ++ byte ∷ rest) ∙ ap (λ m. suc m) (leading_other n byte rest other)

  longest_other : (n byte : ℕ) (rest : List ℕ) → eqb byte wanted ≡ false
      → longest_run wanted (replicate n wanted ++ byte ∷ rest) ≡ max n (longest_run wanted rest)
  longest_other zero byte rest other = ap (λ b. max (cond b (suc (leading_run wanted rest)) 0) (longest_run wanted rest)) other
  longest_other (suc n) byte rest other =
      let here : leading_run wanted (replicate n wanted ++ byte ∷ rest) ≡ n = leading_other n byte rest other in
      let first : leading_run wanted (wanted ∷ (replicate n wanted ++ byte ∷ rest)) ≡ suc (leading_run wanted (replicate n wanted ++ byte ∷ rest)) = leading_more (replicate n wanted ++ byte ∷ rest) in
      let later : longest_run wanted (replicate n wanted ++ byte ∷ rest) ≡ max n (longest_run wanted rest) = longest_other n byte rest other in
      ap (λ m. max m (longest_run wanted (replicate n wanted ++ byte ∷ rest))) first ∙ omega arith

  longest_alone : (n : ℕ) → longest_run wanted (replicate n wanted ++ []) ≤ n
  longest_alone n =
      let most : longest_run wanted (replicate n wanted ++ []) ≤ length (replicate n wanted ++ []) = longest_most (replicate n wanted ++ []) in
      omega (arith, length-append (replicate n wanted) [], length-replicate n wanted)

  -- ---- runs by the lists of which a text is made

  -- Bytes that all are the byte are so many of it.
  all_wanted : (run : List ℕ) → All (λ b. b ≡ wanted) run → run ≡ replicate (length run) wanted
  all_wanted [] all = refl
  all_wanted (b ∷ run) all =
      let here : b ≡ wanted = All-head (λ x. x ≡ wanted) b run all in
      let rest : run ≡ replicate (length run) wanted = all_wanted run (All-tail (λ x. x ≡ wanted) b run all) in
      ap (λ x. x ∷ run) here ∙ ap (λ xs. wanted ∷ xs) rest

  pub runs_from_longest : (most : ℕ) (text : List ℕ) → longest_run wanted text ≤ most → HasRunsWithin wanted most text
  runs_from_longest most text less before run after is all =
      let same : text ≡ before ++ (replicate (length run) wanted ++ after) = is ∙ ap (λ r. before ++ (r ++ after)) (all_wanted run all) in
      let long : length run ≤ longest_run wanted text = subst (λ t. length run ≤ longest_run wanted t) (sym same) (run_within before (length run) after) in
      omega arith

  -- The run at the front of a text.
  front_by : (test : Bool) (byte : ℕ) (rest after : List ℕ) → eqb byte wanted ≡ test → rest ≡ replicate (leading_run wanted rest) wanted ++ after
      → (back : List ℕ) × (byte ∷ rest ≡ replicate (cond test (suc (leading_run wanted rest)) 0) wanted ++ back)
  front_by true byte rest after is split = (after, ap (λ b. b ∷ rest) (eqb-true byte wanted is) ∙ ap (λ bs. wanted ∷ bs) split)
  front_by false byte rest after is split = (byte ∷ rest, refl)

  front_run : (text : List ℕ) → (after : List ℕ) × (text ≡ replicate (leading_run wanted text) wanted ++ after)
  front_run [] = ([], refl)
  front_run (byte ∷ rest) = let (after, split) = front_run rest in front_by (eqb byte wanted) byte rest after refl split

  -- A longest run stands in a text.
  longest_stands : (text : List ℕ)
      → (before : List ℕ) × ((after : List ℕ) × (text ≡ before ++ (replicate (longest_run wanted text) wanted ++ after)))
  longest_stands [] = ([], ([], refl))
  longest_stands (byte ∷ rest) =
      elim (cases_lt (leading_run wanted (byte ∷ rest)) (longest_run wanted rest)) [
        | inl later ↦
            let (before, (after, split)) = longest_stands rest in
            let is : longest_run wanted rest ≡ longest_run wanted (byte ∷ rest) = omega arith in
            (byte ∷ before, (after, ap (λ bs. byte ∷ bs) split ∙ ap (λ n. byte ∷ before ++ (replicate n wanted ++ after)) is))
        | inr here ↦
            let (after, split) = front_run (byte ∷ rest) in
            let is : leading_run wanted (byte ∷ rest) ≡ longest_run wanted (byte ∷ rest) = omega arith in
            ([], (after, split ∙ ap (λ n. replicate n wanted ++ after) is))
      ]

  pub longest_from_runs : (most : ℕ) (text : List ℕ) → HasRunsWithin wanted most text → longest_run wanted text ≤ most
  longest_from_runs most text within =
      let (before, (after, split)) = longest_stands text in
      let run : List ℕ = replicate (longest_run wanted text) wanted in
      let bounded : length (replicate (longest_run wanted text) wanted) ≤ most = within before (replicate (longest_run wanted text) wanted) after split (All-replicate (λ b. b ≡ wanted) (longest_run wanted text) wanted refl) in
      omega (arith, length-replicate (longest_run wanted text) wanted)

  pub runs_measured : (most : ℕ) (text : List ℕ) → HasRunsWithin wanted most text ↔ (longest_run wanted text ≤ most)
  runs_measured most text = (longest_from_runs most text, runs_from_longest most text)

  pub runs_of_short : (most : ℕ) (text : List ℕ) → length text ≤ most → HasRunsWithin wanted most text
  runs_of_short most text short =
      let less : longest_run wanted text ≤ length text = longest_most text in
      runs_from_longest most text (omega arith)

  -- ---- bytes that follow and are others

  leading_none : (rest : List ℕ) → All (λ b. b ≡ wanted → ⊥) rest → leading_run wanted rest ≡ 0
  leading_none [] others = refl
  leading_none (b ∷ rest) others =
      ap (λ test. cond test (suc (leading_run wanted rest)) 0) (ne_eqb b wanted (All-head (λ x. x ≡ wanted → ⊥) b rest others))

  longest_none : (rest : List ℕ) → All (λ b. b ≡ wanted → ⊥) rest → longest_run wanted rest ≡ 0
  longest_none [] others = refl
  longest_none (b ∷ rest) others =
      let here : leading_run wanted (b ∷ rest) ≡ 0 = leading_none (b ∷ rest) others in
      let later : longest_run wanted rest ≡ 0 = longest_none rest (All-tail (λ x. x ≡ wanted → ⊥) b rest others) in
      omega arith

  leading_before : (text rest : List ℕ) → All (λ b. b ≡ wanted → ⊥) rest → leading_run wanted (text ++ rest) ≤ length text
  leading_before [] rest others =
      let none : leading_run wanted rest ≡ 0 = leading_none rest others in
      omega arith
  leading_before (b ∷ text) rest others =
      leading_by (eqb b wanted) (leading_run wanted (text ++ rest)) (length text) (leading_before text rest others)

  longest_before : (text rest : List ℕ) → All (λ b. b ≡ wanted → ⊥) rest → longest_run wanted (text ++ rest) ≤ length text
  longest_before [] rest others =
      let none : longest_run wanted rest ≡ 0 = longest_none rest others in
      omega arith
  longest_before (b ∷ text) rest others =
      let here : leading_run wanted (b ∷ (text ++ rest)) ≤ length (b ∷ text) = leading_before (b ∷ text) rest others in
      let later : longest_run wanted (text ++ rest) ≤ length text = longest_before text rest others in
      omega arith

  pub runs_followed : (most : ℕ) (text rest : List ℕ) → length text ≤ most → All (λ b. b ≡ wanted → ⊥) rest
      → HasRunsWithin wanted most (text ++ rest)
  runs_followed most text rest short others =
      let less : longest_run wanted (text ++ rest) ≤ length text = longest_before text rest others in
      runs_from_longest most (text ++ rest) (omega arith)

-- ---- the loop over the bytes of a name

-- So many of the byte stand just before what is left, and the longest run so far is known.
pub record IsScanning (wanted : ℕ) (bytes : List ℕ) (i run longest : ℕ) : Type 0 where
  pub known : longest_run wanted bytes ≡ max longest (longest_run wanted (replicate run wanted ++ drop i bytes))
  pub less : run ≤ longest
  pub bounded : longest ≤ i

scanned_wanted : (wanted : ℕ) (bytes : List ℕ) (i run longest byte : ℕ) → IsScanning wanted bytes i run longest → i < length bytes
    → byte ≡ get_or bytes i 0 → byte ≡ wanted → IsScanning wanted bytes (i + 1) (run + 1) (max (run + 1) longest)
scanned_wanted wanted bytes i run longest byte is within at_i is_wanted =
    let split : drop i bytes ≡ wanted ∷ drop (i + 1) bytes = drop_more bytes i 0 within ∙ ap (λ b. b ∷ drop (i + 1) bytes) (sym at_i ∙ is_wanted) in
    let joined : replicate run wanted ++ drop i bytes ≡ replicate (run + 1) wanted ++ drop (i + 1) bytes =
    ap (λ bs. replicate run wanted ++ bs) split ∙ (sym (append_assoc (replicate run wanted) (wanted ∷ []) (drop (i + 1) bytes)) ∙ ap (λ bs. bs ++ drop (i + 1) bytes) (replicate_more run wanted)) in
    let same : longest_run wanted (replicate run wanted ++ drop i bytes) ≡ longest_run wanted (replicate (run + 1) wanted ++ drop (i + 1) bytes) = ap (longest_run wanted) joined in
    let least : run + 1 ≤ longest_run wanted (replicate (run + 1) wanted ++ drop (i + 1) bytes) = run_within wanted [] (run + 1) (drop (i + 1) bytes) in
    let known = is.known in
    let less = is.less in
    let bounded = is.bounded in
    record { known = omega arith; less = omega arith; bounded = omega arith }

scanned_other : (wanted : ℕ) (bytes : List ℕ) (i run longest byte : ℕ) → IsScanning wanted bytes i run longest → i < length bytes
    → byte ≡ get_or bytes i 0 → (byte ≡ wanted → ⊥) → IsScanning wanted bytes (i + 1) 0 (max 0 longest)
scanned_other wanted bytes i run longest byte is within at_i other =
    let test : eqb byte wanted ≡ false = ne_eqb byte wanted other in
    let split : drop i bytes ≡ byte ∷ drop (i + 1) bytes = drop_more bytes i 0 within ∙ ap (λ b. b ∷ drop (i + 1) bytes) (sym at_i) in
    let same : longest_run wanted (replicate run wanted ++ drop i bytes) ≡ max run (longest_run wanted (drop (i + 1) bytes)) = ap (λ bs. longest_run wanted (replicate run wanted ++ bs)) split ∙ longest_other wanted run byte (drop (i + 1) bytes) test in
    let known = is.known in
    let less = is.less in
    let bounded = is.bounded in
    record { known = omega arith; less = omega arith; bounded = omega arith }

pub scanned_all : (wanted : ℕ) (bytes : List ℕ) (i run longest : ℕ) → IsScanning wanted bytes i run longest → length bytes ≤ i
    → longest ≡ longest_run wanted bytes
scanned_all wanted bytes i run longest is all =
    let none : longest_run wanted (replicate run wanted ++ drop i bytes) ≡ longest_run wanted (replicate run wanted ++ []) = ap (λ bs. longest_run wanted (replicate run wanted ++ bs)) (drop_all i bytes all) in
    let alone : longest_run wanted (replicate run wanted ++ []) ≤ run = longest_alone wanted run in
    let known = is.known in
    let less = is.less in
    omega arith

-- One byte more, as the loop has it.
pub scanned_more_wanted : (wanted : ℕ) (bytes : List ℕ) (i run longest byte run' longest' : ℕ) → IsScanning wanted bytes i run longest → i < length bytes
    → byte ≡ get_or bytes i 0 → byte ≡ wanted → run' ≡ run + 1 → longest' ≡ max run' longest → IsScanning wanted bytes (i + 1) run' longest'
scanned_more_wanted wanted bytes i run longest byte run' longest' is within at_i is_wanted next more =
    let greater : longest' ≡ max (run + 1) longest = more ∙ ap (λ r. max r longest) next in
    subst (λ (r : ℕ). IsScanning wanted bytes (i + 1) r longest') (sym next)
    (subst (λ (n : ℕ). IsScanning wanted bytes (i + 1) (run + 1) n) (sym greater) (scanned_wanted wanted bytes i run longest byte is within at_i is_wanted))

pub scanned_more_other : (wanted : ℕ) (bytes : List ℕ) (i run longest byte run' longest' : ℕ) → IsScanning wanted bytes i run longest → i < length bytes
    → byte ≡ get_or bytes i 0 → (byte ≡ wanted → ⊥) → run' ≡ 0 → longest' ≡ max run' longest → IsScanning wanted bytes (i + 1) run' longest'
scanned_more_other wanted bytes i run longest byte run' longest' is within at_i other next more =
    let greater : longest' ≡ max 0 longest = more ∙ ap (λ r. max r longest) next in
    subst (λ (r : ℕ). IsScanning wanted bytes (i + 1) r longest') (sym next)
    (subst (λ (n : ℕ). IsScanning wanted bytes (i + 1) 0 n) (sym greater) (scanned_other wanted bytes i run longest byte is within at_i other))

-- ---- the greatest of some names

greatest-append : (xs ys : List ℕ) → greatest (xs ++ ys) ≡ max (greatest xs) (greatest ys)
greatest-append [] ys = omega arith
greatest-append (x ∷ xs) ys =
    let rest : greatest (xs ++ ys) ≡ max (greatest xs) (greatest ys) = greatest-append xs ys in
    omega arith

pub greatest_runs : (wanted most : ℕ) (names : List (List ℕ)) → All (λ name. length name ≤ most) names
    → greatest (map (longest_run wanted) names) ≤ most
greatest_runs wanted most [] short = omega arith
greatest_runs wanted most (name ∷ names) short =
    let here : length name ≤ most = All-head (λ n. length n ≤ most) name names short in
    let within : longest_run wanted name ≤ length name = longest_most wanted name in
    let rest : greatest (map (longest_run wanted) names) ≤ most = greatest_runs wanted most names (All-tail (λ n. length n ≤ most) name names short) in
    omega arith

-- One more name.
pub greatest_more : (wanted : ℕ) (names : List (List ℕ)) (s : ℕ) (name : List ℕ) (first longest next run : ℕ) → slice_get names s ≡ Some name
    → longest ≡ max first (greatest (map (longest_run wanted) (take s names))) → run ≡ longest_run wanted name → next ≡ max run longest
    → next ≡ max first (greatest (map (longest_run wanted) (take (s + 1) names)))
greatest_more wanted names s name first longest next run is so_far here more =
    let within : s < length names = slice_get_within names s name is in
    let at_s : get_or names s name ≡ name = get_or_from_slice_get names s name name is in
    let lists : map (longest_run wanted) (take (s + 1) names) ≡ map (longest_run wanted) (take s names) ++ longest_run wanted (get_or names s name) ∷ [] = map_more (longest_run wanted) names s name within in
    let joined : greatest (map (longest_run wanted) (take (s + 1) names)) ≡ max (greatest (map (longest_run wanted) (take s names))) (greatest (longest_run wanted (get_or names s name) ∷ [])) =
    ap greatest lists ∙ greatest-append (map (longest_run wanted) (take s names)) (longest_run wanted (get_or names s name) ∷ []) in
    let same : longest_run wanted (get_or names s name) ≡ longest_run wanted name = ap (longest_run wanted) at_s in
    omega arith

pub greatest_all : (wanted : ℕ) (names others : List (List ℕ)) (s longest : ℕ) → length names ≤ s
    → longest ≡ max (greatest (map (longest_run wanted) others)) (greatest (map (longest_run wanted) (take s names)))
    → longest ≡ greatest (map (longest_run wanted) (names ++ others))
greatest_all wanted names others s longest all is =
    let whole : greatest (map (longest_run wanted) (take s names)) ≡ greatest (map (longest_run wanted) names) = ap (λ ns. greatest (map (longest_run wanted) ns)) (take_all s names all) in
    let joined : greatest (map (longest_run wanted) (names ++ others)) ≡ max (greatest (map (longest_run wanted) names)) (greatest (map (longest_run wanted) others)) =
    ap greatest (map-append (longest_run wanted) names others) ∙ greatest-append (map (longest_run wanted) names) (map (longest_run wanted) others) in
    omega arith
