-- A text from its front: its first physical line, and its first logical line.
use Rattle.std.proofs.Common.{◌≡◌, ℕ, suc, ◌+◌, ◌-◌, ◌<◌, ◌≤◌, Bool, true, false, not, cond, List, [], ◌∷◌, ◌++◌, map, take, drop, length, refl, sym, ap, ◌∙◌, arith, add_assoc}
use Rattle.std.proofs.lemmas.List.{append_assoc, append-nil, length-drop}
use Rattle.std.proofs.lemmas.List.Elements.{filter-append}
use Rattle.std.specs.List.{filter, before_first, after_first, onto_first, slice_split, position_or_len}
use Rattle.std.specs.Prelude.{◌==◌, nat_lt}
use Rattle.blif_lex.specs.Words.{Line, Logical, physical_lines, content_of, goes_on, unjoined, join_onto, logical_lines, line_of, words_in, is_blank}
use Rattle.blif_lex.specs.Steps.{all_lines, BeginsWith}
use Rattle.blif_lex.proofs.Lists.{slice_split-append}

abbrev is_end : ℕ → Bool
is_end b = b == 10

-- the first physical line, and those of what follows its LF
pub physical_lines-first : (text : List ℕ) → 0 < length text → physical_lines text ≡ before_first (λ b. b == 10) text ∷ physical_lines (after_first (λ b. b == 10) text)
physical_lines-first [] h = absurd (omega arith)
physical_lines-first (b ∷ []) h =
    elim (b == 10) as (λ v. cond v ([] ∷ []) (onto_first b []) ≡ take (cond (not v) (1 + 0) 0) (b ∷ []) ∷ physical_lines (drop (cond (not v) (1 + 0) 0 + 1) (b ∷ []))) [
      | true ↦ refl
      | false ↦ refl
    ]
physical_lines-first (b ∷ c ∷ cs) h =
    let t : List ℕ = c ∷ cs in
    let q : ℕ = position_or_len (λ x. x == 10) (c ∷ cs) in
    let once : 1 + q ≡ suc q = omega arith in
    let twice : 1 + q + 1 ≡ suc (q + 1) = omega arith in
    let again : physical_lines (c ∷ cs) ≡ before_first (λ x. x == 10) (c ∷ cs) ∷ physical_lines (after_first (λ x. x == 10) (c ∷ cs)) = physical_lines-first (c ∷ cs) (omega arith) in
    elim (b == 10) as (λ v. cond v ([] ∷ physical_lines (c ∷ cs)) (onto_first b (physical_lines (c ∷ cs)))
    ≡ take (cond (not v) (1 + q) 0) (b ∷ c ∷ cs) ∷ physical_lines (drop (cond (not v) (1 + q) 0 + 1) (b ∷ c ∷ cs))) [
      | true ↦ refl
      | false ↦ ap (onto_first b) again
          ∙ sym (ap (λ n. take n (b ∷ c ∷ cs) ∷ physical_lines (drop (1 + q + 1) (b ∷ c ∷ cs))) once
          ∙ ap (λ n. (b ∷ take q (c ∷ cs)) ∷ physical_lines (drop n (b ∷ c ∷ cs))) twice)
    ]

-- words on the two sides of a join stay apart
pub words_in-join : (xs ys : List ℕ) → words_in (xs ++ 32 ∷ ys) ≡ words_in xs ++ words_in ys
words_in-join xs ys = ap (filter (λ (w : List ℕ). nat_lt 0 (length w))) (slice_split-append is_blank xs 32 ys refl)
    ∙ filter-append (λ w. nat_lt 0 (length w)) (slice_split is_blank xs) (slice_split is_blank ys)

-- the line that begins with these words and goes on in the first of the others
abbrev pub onto : ℕ → List (List ℕ) → List Line → List Line
onto number words [] = record { number = number; words = words } ∷ []
onto number words (next ∷ others) = record { number = number; words = words ++ next.words } ∷ others

line_of-join_onto : (number : ℕ) (bytes : List ℕ) (lines : List Logical) → map line_of (join_onto number bytes lines) ≡ onto number (words_in bytes) (map line_of lines)
line_of-join_onto number bytes [] = refl
line_of-join_onto number bytes (next ∷ others) = ap (λ ws. record { number = number; words = ws } ∷ map line_of others) (words_in-join bytes next.bytes)

pub onto-onto : (n m : ℕ) (xs ys : List (List ℕ)) (lines : List Line) → onto n xs (onto m ys lines) ≡ onto n (xs ++ ys) lines
onto-onto n m xs ys [] = refl
onto-onto n m xs ys (next ∷ others) = ap (λ ws. record { number = n; words = ws } ∷ others) (sym (append_assoc xs ys next.words))

pub all_lines-empty : (n : ℕ) → all_lines n [] ≡ []
unfolding all_lines
all_lines-empty n = refl

-- one physical line, and what it begins: a line that goes on, or a whole one
abbrev step : ℕ → List ℕ → List Line → List Line
step n c lines = cond (goes_on c) (onto n (words_in (unjoined c)) lines) (record { number = n; words = words_in (unjoined c) } ∷ lines)

logical_lines-first : (n : ℕ) (c : List ℕ) (cs : List (List ℕ)) → map line_of (logical_lines n (c ∷ cs)) ≡ step n c (map line_of (logical_lines (n + 1) cs))
logical_lines-first n c cs =
    elim (goes_on c) as (λ v. map line_of (cond v (join_onto n (cond v (take (length c - 1) c) c) (logical_lines (n + 1) cs)) (record { number = n; bytes = c } ∷ logical_lines (n + 1) cs))
    ≡ cond v (onto n (words_in (cond v (take (length c - 1) c) c)) (map line_of (logical_lines (n + 1) cs))) (record { number = n; words = words_in (cond v (take (length c - 1) c) c) } ∷ map line_of (logical_lines (n + 1) cs))) [
      | true ↦ line_of-join_onto n (take (length c - 1) c) (logical_lines (n + 1) cs)
      | false ↦ refl
    ]

pub all_lines-first : (n : ℕ) (text : List ℕ) → 0 < length text
    → all_lines n text ≡ step n (content_of (before_first (λ b. b == 10) text)) (all_lines (n + 1) (after_first (λ b. b == 10) text))
unfolding all_lines
all_lines-first n text h = ap (λ ls. map line_of (logical_lines n (map content_of ls))) (physical_lines-first text h)
    ∙ logical_lines-first n (content_of (before_first (λ b. b == 10) text)) (map content_of (physical_lines (after_first (λ b. b == 10) text)))

step-onto : (n m : ℕ) (line : List (List ℕ)) (c : List ℕ) (lines : List Line) → onto n line (step m c lines) ≡ cond (goes_on c) (onto n (line ++ words_in (unjoined c)) lines) (record { number = n; words = line ++ words_in (unjoined c) } ∷ lines)
step-onto n m line c lines =
    elim (goes_on c) as (λ v. onto n line (cond v (onto m (words_in (unjoined c)) lines) (record { number = m; words = words_in (unjoined c) } ∷ lines))
    ≡ cond v (onto n (line ++ words_in (unjoined c)) lines) (record { number = n; words = line ++ words_in (unjoined c) } ∷ lines)) [
      | true ↦ onto-onto n m line (words_in (unjoined c)) lines
      | false ↦ refl
    ]

-- A logical line of which some physical lines are taken, and which goes on.
pub record IsOpen (text : List ℕ) (taken : ℕ) (before after : List (List ℕ)) (rest : List ℕ) : Type 0 where
  pub words : (line : List (List ℕ)) × (after ≡ before ++ line)
      × ((n : ℕ) → all_lines n text ≡ onto n line (all_lines (n + taken) rest))
  pub some : 0 < length rest
  pub shorter : taken + length rest ≤ length text

pub IsOpen-start : (text : List ℕ) (before : List (List ℕ)) → 0 < length text → IsOpen text 0 before before text
IsOpen-start text before h = record {
  words = (
    [],
    sym (append-nil before),
    λ n.
        let c = content_of (before_first (λ b. b == 10) text) in
        let others = all_lines (n + 1) (after_first (λ b. b == 10) text) in
        all_lines-first n text h
        ∙ sym (step-onto n n [] c others)
        ∙ ap (onto n []) (sym (all_lines-first n text h))
        ∙ ap (λ m. onto n [] (all_lines m text)) (let e : n ≡ n + 0 = omega arith in e),
  );
  some = h;
  shorter = omega arith;
}

-- one physical line more
more : (text : List ℕ) (taken : ℕ) (before after : List (List ℕ)) (rest : List ℕ) → IsOpen text taken before after rest
    → (line : List (List ℕ)) × (after ++ words_in (unjoined (content_of (before_first (λ b. b == 10) rest))) ≡ before ++ line)
    × ((n : ℕ) → all_lines n text ≡ cond (goes_on (content_of (before_first (λ b. b == 10) rest)))
    (onto n line (all_lines (n + (taken + 1)) (after_first (λ b. b == 10) rest)))
    (record { number = n; words = line } ∷ all_lines (n + (taken + 1)) (after_first (λ b. b == 10) rest)))
more text taken before after rest h =
    let c = content_of (before_first (λ b. b == 10) rest) in
    let ws = words_in (unjoined c) in
    let line = h.words.0 in (
      line ++ ws,
      ap (λ xs. xs ++ ws) h.words.1 ∙ append_assoc before line ws,
      λ n.
          let others = all_lines (n + taken + 1) (after_first (λ b. b == 10) rest) in
          h.words.2 n
          ∙ ap (onto n line) (all_lines-first (n + taken) rest h.some)
          ∙ step-onto n (n + taken) line c others
          ∙ ap (λ m. cond (goes_on c) (onto n (line ++ ws) (all_lines m (after_first (λ b. b == 10) rest))) (record { number = n; words = line ++ ws } ∷ all_lines m (after_first (λ b. b == 10) rest)))
          (add_assoc n taken 1),
    )

after_first-shorter : (rest : List ℕ) → 0 < length rest → length (after_first (λ b. b == 10) rest) + 1 ≤ length rest
after_first-shorter rest h = omega (arith, length-drop (position_or_len (λ b. b == 10) rest + 1) rest)

pub IsOpen-more : (text : List ℕ) (taken : ℕ) (before after : List (List ℕ)) (rest : List ℕ) → IsOpen text taken before after rest
    → (now : List (List ℕ)) → now ≡ after ++ words_in (unjoined (content_of (before_first (λ b. b == 10) rest)))
    → (left : List ℕ) → left ≡ after_first (λ b. b == 10) rest
    → goes_on (content_of (before_first (λ b. b == 10) rest)) ≡ true → 0 < length left → IsOpen text (taken + 1) before now left
IsOpen-more text taken before after rest h now w left l e some =
    let m = more text taken before after rest h in
    rw (w, l) record {
      words = (
        m.0,
        m.1,
        λ n. m.2 n ∙ ap (λ v. cond v (onto n m.0 (all_lines (n + (taken + 1)) (after_first (λ b. b == 10) rest)))
            (record { number = n; words = m.0 } ∷ all_lines (n + (taken + 1)) (after_first (λ b. b == 10) rest))) e,
      );
      some = rw (← l) some;
      shorter = omega (arith, after_first-shorter rest h.some, h.shorter);
    }

pub BeginsWith-end : (text : List ℕ) (taken : ℕ) (before after : List (List ℕ)) (rest : List ℕ) → IsOpen text taken before after rest
    → (now : List (List ℕ)) → now ≡ after ++ words_in (unjoined (content_of (before_first (λ b. b == 10) rest)))
    → (left : List ℕ) → left ≡ after_first (λ b. b == 10) rest
    → goes_on (content_of (before_first (λ b. b == 10) rest)) ≡ false → BeginsWith text (taken + 1) before now left
BeginsWith-end text taken before after rest h now w left l e =
    let m = more text taken before after rest h in
    rw (w, l) record {
      words = (
        m.0,
        m.1,
        λ n. m.2 n ∙ ap (λ v. cond v (onto n m.0 (all_lines (n + (taken + 1)) (after_first (λ b. b == 10) rest)))
            (record { number = n; words = m.0 } ∷ all_lines (n + (taken + 1)) (after_first (λ b. b == 10) rest))) e,
      );
      some = omega arith;
      shorter = omega (arith, after_first-shorter rest h.some, h.shorter);
    }

-- At the end of the text nothing is joined.
at_end : (v : Bool) (n m : ℕ) (line : List (List ℕ)) (left : List ℕ) → left ≡ [] → cond v (onto n line (all_lines m left)) (record { number = n; words = line } ∷ all_lines m left) ≡ record { number = n; words = line } ∷ all_lines m left
at_end true n m line left e = rw (e, all_lines-empty m) refl
at_end false n m line left e = refl

pub BeginsWith-last : (text : List ℕ) (taken : ℕ) (before after : List (List ℕ)) (rest : List ℕ) → IsOpen text taken before after rest
    → (now : List (List ℕ)) → now ≡ after ++ words_in (unjoined (content_of (before_first (λ b. b == 10) rest)))
    → (left : List ℕ) → left ≡ after_first (λ b. b == 10) rest
    → left ≡ [] → BeginsWith text (taken + 1) before now left
BeginsWith-last text taken before after rest h now w left l e =
    let m = more text taken before after rest h in
    rw (w, l) record {
      words = (m.0, m.1, λ n. m.2 n ∙ at_end (goes_on (content_of (before_first (λ b. b == 10) rest))) n (n + (taken + 1)) m.0 (after_first (λ b. b == 10) rest) (sym l ∙ e));
      some = omega arith;
      shorter = omega (arith, after_first-shorter rest h.some, h.shorter);
    }
