-- Lines of tables and drops, and the last line: each is what is written of its value, and what is written has its form.
use Rattle.std.proofs.Common.{◌≡◌, ℕ, ◌<◌, ◌≤◌, ◌^◌, Bool, true, ltb, ◌&&◌, List, [], ◌∷◌, map, length, drop, decimal, codes, All, None, refl, ◌∙◌, ap, ap₂, arith, lit<}
use Rattle.std.specs.List.{list_all}
use Rattle.std.proofs.lemmas.Bool.{and_parts, and_from, leb-true, le-leb, eqb-true, ltb-true}
use Rattle.std.proofs.lemmas.List.{length-map}
use Rattle.std.proofs.lemmas.List.Elements.{All-head, All-tail, All-cons, All-nil}
use Rattle.tm_unroll.specs.declared.node.Node.{Node}
use Rattle.tm_unroll.specs.Mappings.{Table}
use Rattle.tm_replay.specs.Replays.{Drop}
use Rattle.cert_text.specs.declared.keyword.Keyword.{Keyword}
use Rattle.cert_text.specs.declared.keyword.Keyword.TheVariants as keywords
use Rattle.cert_text.specs.Limits.{most_number, most_steps}
use Rattle.cert_text.specs.Certificates.{leaf_word, walk_word, table_words, drop_words, HasSpellingLeaf, HasSpellingWalk, HasSpellingTable, HasSpellingDrop}
use Rattle.cert_text.specs.Words.{words_in, word_at, number_in, is_number, is_leaf, leaf_in, is_walk, walk_in, table_in, table_on, drop_in, drop_on}
use Rattle.cert_text.specs.Faults.{later, has_words, has_numbers, fault_in}
use Rattle.cert_text.proofs.NumberLemmas.{number-parts, decimal-number, number-decimal, is_number-decimal}
use Rattle.cert_text.proofs.WordLemmas.{leaf-spelled, leaf-bounds, leaf-again, is_leaf-word, walk-spelled, walk-bounds, walk-again, is_walk-word}
use Rattle.cert_text.proofs.StepLemmas.{fault-none}
use Rattle.cert_text.proofs.ReadLemmas.{table_numbers, drop_numbers}
use Rattle.cert_text.proofs.LineLemmas.{IsWhole, AreWhole, line_of, tested-whole, words-line, line-lawful, words-parts, words-yes, number-whole, leaves-whole, walks-whole}

-- ---- leaves and walks

leaves-spelled : (words : List (List ℕ)) → list_all is_leaf words ≡ true → words ≡ map leaf_word (map leaf_in words)
leaves-spelled [] all = refl
leaves-spelled (word ∷ words) all =
    let parts = and_parts (is_leaf word) (list_all is_leaf words) all in
    ap₂ (λ (x : List ℕ) (xs : List (List ℕ)). x ∷ xs) (leaf-spelled word parts.0) (leaves-spelled words parts.1)

leaves-bounds : (words : List (List ℕ)) → list_all is_leaf words ≡ true → All HasSpellingLeaf (map leaf_in words)
leaves-bounds [] all = All-nil HasSpellingLeaf
leaves-bounds (word ∷ words) all =
    let parts = and_parts (is_leaf word) (list_all is_leaf words) all in
    All-cons HasSpellingLeaf (leaf_in word) (map leaf_in words) (leaf-bounds word parts.0) (leaves-bounds words parts.1)

leaves-again : (leaves : List Node) → All HasSpellingLeaf leaves → map leaf_in (map leaf_word leaves) ≡ leaves
leaves-again [] spelled = refl
leaves-again (x ∷ leaves) spelled =
    ap₂ (λ (y : Node) (ys : List Node). y ∷ ys) (leaf-again x (All-head HasSpellingLeaf x leaves spelled)) (leaves-again leaves (All-tail HasSpellingLeaf x leaves spelled))

leaves-pass : (leaves : List Node) → All HasSpellingLeaf leaves → list_all is_leaf (map leaf_word leaves) ≡ true
leaves-pass [] spelled = refl
leaves-pass (x ∷ leaves) spelled =
    and_from (is_leaf (leaf_word x)) (list_all is_leaf (map leaf_word leaves)) (is_leaf-word x (All-head HasSpellingLeaf x leaves spelled)) (leaves-pass leaves (All-tail HasSpellingLeaf x leaves spelled))

walks-spelled : (words : List (List ℕ)) → list_all is_walk words ≡ true → words ≡ map walk_word (map walk_in words)
walks-spelled [] all = refl
walks-spelled (word ∷ words) all =
    let parts = and_parts (is_walk word) (list_all is_walk words) all in
    ap₂ (λ (x : List ℕ) (xs : List (List ℕ)). x ∷ xs) (walk-spelled word parts.0) (walks-spelled words parts.1)

walks-bounds : (words : List (List ℕ)) → list_all is_walk words ≡ true → list_all (λ word. ltb 0 (length word)) words ≡ true → All HasSpellingWalk (map walk_in words)
walks-bounds [] all some = All-nil HasSpellingWalk
walks-bounds (word ∷ words) all some =
    let parts = and_parts (is_walk word) (list_all is_walk words) all in
    let filled = and_parts (ltb 0 (length word)) (list_all (λ w. ltb 0 (length w)) words) some in
    All-cons HasSpellingWalk (walk_in word) (map walk_in words) (walk-bounds word parts.0 (ltb-true 0 (length word) filled.0)) (walks-bounds words parts.1 filled.1)

walks-again : (walks : List (List ℕ)) → map walk_in (map walk_word walks) ≡ walks
walks-again [] = refl
walks-again (walk ∷ walks) = ap₂ (λ (y : List ℕ) (ys : List (List ℕ)). y ∷ ys) (walk-again walk) (walks-again walks)

walks-pass : (walks : List (List ℕ)) → All HasSpellingWalk walks → list_all is_walk (map walk_word walks) ≡ true
walks-pass [] spelled = refl
walks-pass (walk ∷ walks) spelled =
    and_from (is_walk (walk_word walk)) (list_all is_walk (map walk_word walks)) (is_walk-word walk (All-head HasSpellingWalk walk walks spelled).indices)
    (walks-pass walks (All-tail HasSpellingWalk walk walks spelled))

-- ---- tables

three_words : (words : List (List ℕ)) → 3 ≤ length words → words ≡ word_at words 0 ∷ word_at words 1 ∷ word_at words 2 ∷ drop 3 words
three_words [] many = absurd (omega arith)
three_words (a ∷ []) many = absurd (omega arith)
three_words (a ∷ b ∷ []) many = absurd (omega arith)
three_words (a ∷ b ∷ x ∷ words) many = refl

-- What the test of a table's words tells.
record TableNumbers (words : List (List ℕ)) : Type 0 where
  gate : is_number most_number (word_at words 1) ≡ true
  lag : is_number most_steps (word_at words 2) ≡ true
  leaves : list_all is_leaf (drop 3 words) ≡ true

table-parts : (words : List (List ℕ)) → has_numbers keywords.Table words ≡ true → TableNumbers words
unfolding has_numbers
table-parts words is =
    let last = and_parts (is_number most_number (word_at words 1) && is_number most_steps (word_at words 2)) (list_all is_leaf (drop 3 words)) is in
    let two = and_parts (is_number most_number (word_at words 1)) (is_number most_steps (word_at words 2)) last.0 in
    record { gate = two.0; lag = two.1; leaves = last.1 }

pub table-spelled : (line : List ℕ) → fault_in (later keywords.Table) line ≡ None → (words_in line ≡ table_words (table_on line)) × HasSpellingTable (table_on line)
table-spelled line none =
    let words : List (List ℕ) = words_in line in
    let lawful = line-lawful keywords.Table line none in
    let has = words-parts keywords.Table words lawful.0 in
    let numbers = table-parts words lawful.1 in
    let gate : word_at words 1 ≡ decimal (number_in (word_at words 1)) = decimal-number most_number (word_at words 1) (lit< tt) numbers.gate in
    let lag : word_at words 2 ≡ decimal (number_in (word_at words 2)) = decimal-number most_steps (word_at words 2) (lit< tt) numbers.lag in
    let leaves : drop 3 words ≡ map leaf_word (map leaf_in (drop 3 words)) = leaves-spelled (drop 3 words) numbers.leaves in (
      three_words words (leb-true 3 (length words) has.many)
          ∙ ap₂ (λ (a : List ℕ) (xs : List (List ℕ)). a ∷ xs) has.word
          (ap₂ (λ (a : List ℕ) (xs : List (List ℕ)). a ∷ xs) gate (ap₂ (λ (a : List ℕ) (xs : List (List ℕ)). a ∷ xs) lag leaves)),
      record { gate = (number-parts most_number (word_at words 1) numbers.gate).within; lag = (number-parts most_steps (word_at words 2) numbers.lag).within; leaves = leaves-bounds (drop 3 words) numbers.leaves },
    )

-- What is written of a value has its form, and tells the value.
pub record IsWritten {V : Type 0} (keyword : Keyword) (value_on : List ℕ → V) (words : List (List ℕ)) (value : V) : Type 0 where
  pub lawful : fault_in (later keyword) (line_of words) ≡ None
  pub told : value_on (line_of words) ≡ value
  pub whole : AreWhole words

pub table-written : (t : Table) → HasSpellingTable t → IsWritten keywords.Table table_on (table_words t) t
table-written t spelled =
    let ws : List (List ℕ) = table_words t in
    let gate_small : t.gate < 2 ^ 64 = omega (arith, spelled.gate) in
    let lag_small : t.lag < 2 ^ 64 = omega (arith, spelled.lag) in
    let word : IsWhole (codes "table") = tested-whole (codes "table") refl refl in
    let whole : AreWhole ws = (word, (number-whole t.gate gate_small, (number-whole t.lag lag_small, leaves-whole t.leaves spelled.leaves))) in
    let same : words_in (line_of ws) ≡ ws = words-line (codes "table") (decimal t.gate ∷ decimal t.lag ∷ map leaf_word t.leaves) whole in
    let lawful : has_words keywords.Table ws ≡ true = words-yes keywords.Table ws refl (le-leb 3 (length ws) (omega arith)) whole in
    let numbers : has_numbers keywords.Table ws ≡ true =
    table_numbers ws (is_number-decimal most_number t.gate (lit< tt) spelled.gate) (is_number-decimal most_steps t.lag (lit< tt) spelled.lag) (leaves-pass t.leaves spelled.leaves) in
    let values : table_in ws ≡ t =
    ap₂ (λ (g : ℕ) (r : ℕ × List Node). record { gate = g; lag = r.0; leaves = r.1 }) (number-decimal t.gate gate_small)
    (ap₂ (λ (l : ℕ) (xs : List Node). (l, xs)) (number-decimal t.lag lag_small) (leaves-again t.leaves spelled.leaves)) in
    record {
      lawful = fault-none keywords.Table (line_of ws) (ap (has_words keywords.Table) same ∙ lawful) (ap (has_numbers keywords.Table) same ∙ numbers);
      told = ap table_in same ∙ values;
      whole = whole;
    }

-- ---- drops

four_words : (words : List (List ℕ)) → 5 ≤ length words → words ≡ word_at words 0 ∷ word_at words 1 ∷ word_at words 2 ∷ word_at words 3 ∷ drop 4 words
four_words [] many = absurd (omega arith)
four_words (a ∷ []) many = absurd (omega arith)
four_words (a ∷ b ∷ []) many = absurd (omega arith)
four_words (a ∷ b ∷ x ∷ []) many = absurd (omega arith)
four_words (a ∷ b ∷ x ∷ y ∷ words) many = refl

-- What the test of a drop's words tells.
record DropNumbers (words : List (List ℕ)) : Type 0 where
  gate : is_number most_number (word_at words 1) ≡ true
  lag : is_number most_steps (word_at words 2) ≡ true
  arrival : is_number most_number (word_at words 3) ≡ true
  walks : list_all is_walk (drop 4 words) ≡ true

drop-parts : (words : List (List ℕ)) → has_numbers keywords.Drop words ≡ true → DropNumbers words
unfolding has_numbers
drop-parts words is =
    let last = and_parts (is_number most_number (word_at words 1) && is_number most_steps (word_at words 2) && is_number most_number (word_at words 3)) (list_all is_walk (drop 4 words)) is in
    let three = and_parts (is_number most_number (word_at words 1) && is_number most_steps (word_at words 2)) (is_number most_number (word_at words 3)) last.0 in
    let two = and_parts (is_number most_number (word_at words 1)) (is_number most_steps (word_at words 2)) three.0 in
    record { gate = two.0; lag = two.1; arrival = three.1; walks = last.1 }

-- the words behind the fourth are filled, and there is one
filled_rest : (words : List (List ℕ)) → 5 ≤ length words → list_all (λ word. ltb 0 (length word)) words ≡ true → (0 < length (drop 4 words)) × (list_all (λ word. ltb 0 (length word)) (drop 4 words) ≡ true)
filled_rest [] many all = absurd (omega arith)
filled_rest (a ∷ []) many all = absurd (omega arith)
filled_rest (a ∷ b ∷ []) many all = absurd (omega arith)
filled_rest (a ∷ b ∷ x ∷ []) many all = absurd (omega arith)
filled_rest (a ∷ b ∷ x ∷ y ∷ words) many all =
    let fill : List (List ℕ) → Bool = list_all (λ (word : List ℕ). ltb 0 (length word)) in
    let p1 = and_parts (ltb 0 (length a)) (fill (b ∷ x ∷ y ∷ words)) all in
    let p2 = and_parts (ltb 0 (length b)) (fill (x ∷ y ∷ words)) p1.1 in
    let p3 = and_parts (ltb 0 (length x)) (fill (y ∷ words)) p2.1 in
    let p4 = and_parts (ltb 0 (length y)) (fill words) p3.1 in
    (omega arith, p4.1)

pub drop-spelled : (line : List ℕ) → fault_in (later keywords.Drop) line ≡ None → (words_in line ≡ drop_words (drop_on line)) × HasSpellingDrop (drop_on line)
drop-spelled line none =
    let words : List (List ℕ) = words_in line in
    let lawful = line-lawful keywords.Drop line none in
    let has = words-parts keywords.Drop words lawful.0 in
    let numbers = drop-parts words lawful.1 in
    let many : 5 ≤ length words = leb-true 5 (length words) has.many in
    let filled = filled_rest words many has.filled in
    let gate : word_at words 1 ≡ decimal (number_in (word_at words 1)) = decimal-number most_number (word_at words 1) (lit< tt) numbers.gate in
    let lag : word_at words 2 ≡ decimal (number_in (word_at words 2)) = decimal-number most_steps (word_at words 2) (lit< tt) numbers.lag in
    let arrival : word_at words 3 ≡ decimal (number_in (word_at words 3)) = decimal-number most_number (word_at words 3) (lit< tt) numbers.arrival in
    let walks : drop 4 words ≡ map walk_word (map walk_in (drop 4 words)) = walks-spelled (drop 4 words) numbers.walks in
    let cons : List ℕ → List (List ℕ) → List (List ℕ) = λ (a : List ℕ) (xs : List (List ℕ)). a ∷ xs in (
      four_words words many ∙ ap₂ cons has.word (ap₂ cons gate (ap₂ cons lag (ap₂ cons arrival walks))),
      record {
        gate = (number-parts most_number (word_at words 1) numbers.gate).within;
        lag = (number-parts most_steps (word_at words 2) numbers.lag).within;
        arrival = (number-parts most_number (word_at words 3) numbers.arrival).within;
        walks = record { some = omega (arith, filled.0, length-map (drop 4 words) walk_in); each = walks-bounds (drop 4 words) numbers.walks filled.1 };
      },
    )

pub drop-written : (d : Drop) → HasSpellingDrop d → IsWritten keywords.Drop drop_on (drop_words d) d
drop-written d spelled =
    let ws : List (List ℕ) = drop_words d in
    let gate_small : d.gate < 2 ^ 64 = omega (arith, spelled.gate) in
    let lag_small : d.lag < 2 ^ 64 = omega (arith, spelled.lag) in
    let arrival_small : d.arrival < 2 ^ 64 = omega (arith, spelled.arrival) in
    let word : IsWhole (codes "drop") = tested-whole (codes "drop") refl refl in
    let whole : AreWhole ws = (word, (number-whole d.gate gate_small, (number-whole d.lag lag_small, (number-whole d.arrival arrival_small, walks-whole d.walks spelled.walks.each)))) in
    let same : words_in (line_of ws) ≡ ws = words-line (codes "drop") (decimal d.gate ∷ decimal d.lag ∷ decimal d.arrival ∷ map walk_word d.walks) whole in
    let many : 5 ≤ length ws = omega (arith, spelled.walks.some, length-map d.walks walk_word) in
    let lawful : has_words keywords.Drop ws ≡ true = words-yes keywords.Drop ws refl (le-leb 5 (length ws) many) whole in
    let numbers : has_numbers keywords.Drop ws ≡ true =
    drop_numbers ws (is_number-decimal most_number d.gate (lit< tt) spelled.gate) (is_number-decimal most_steps d.lag (lit< tt) spelled.lag)
    (is_number-decimal most_number d.arrival (lit< tt) spelled.arrival) (walks-pass d.walks spelled.walks.each) in
    let values : drop_in ws ≡ d =
    ap₂ (λ (x : ℕ × ℕ) (y : ℕ × List (List ℕ)). record { gate = x.0; lag = x.1; arrival = y.0; walks = y.1 })
    (ap₂ (λ (g l : ℕ). (g, l)) (number-decimal d.gate gate_small) (number-decimal d.lag lag_small))
    (ap₂ (λ (a : ℕ) (xs : List (List ℕ)). (a, xs)) (number-decimal d.arrival arrival_small) (walks-again d.walks)) in
    record {
      lawful = fault-none keywords.Drop (line_of ws) (ap (has_words keywords.Drop) same ∙ lawful) (ap (has_numbers keywords.Drop) same ∙ numbers);
      told = ap drop_in same ∙ values;
      whole = whole;
    }

-- ---- the last line

one_word : (words : List (List ℕ)) → length words ≡ 1 → words ≡ word_at words 0 ∷ []
one_word [] e = absurd (omega arith)
one_word (a ∷ []) e = refl
one_word (a ∷ b ∷ words) e = absurd (omega arith)

pub end-spelled : (line : List ℕ) → fault_in (later keywords.End) line ≡ None → words_in line ≡ codes "end" ∷ []
end-spelled line none =
    let words : List (List ℕ) = words_in line in
    let has = words-parts keywords.End words (line-lawful keywords.End line none).0 in
    one_word words (eqb-true (length words) 1 has.many) ∙ ap (λ (w : List ℕ). w ∷ []) has.word

pub end-lawful : fault_in (later keywords.End) (codes "end") ≡ None
unfolding has_words has_numbers
end-lawful = fault-none keywords.End (codes "end") refl refl
