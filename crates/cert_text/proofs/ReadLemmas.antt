-- Words read one after another, with the tests that they pass.
use Rattle.std.proofs.Common.{◌≡◌, ℕ, ◌-◌, ◌<◌, ◌≤◌, Bool, true, false, ◌&&◌, List, [], ◌∷◌, map, length, take, drop, get_or, None, refl, sym, ◌∙◌, ap, Bor}
use Rattle.std.specs.List.{list_all}
use Rattle.std.proofs.lemmas.Bool.{and_from, and_left, and_right, leb-true}
use Rattle.std.proofs.lemmas.List.{take_rest, drop-map, get_or-map}
use Rattle.cert_text.specs.declared.keyword.Keyword.{Keyword}
use Rattle.cert_text.specs.declared.keyword.Keyword.TheVariants as keywords
use Rattle.cert_text.specs.declared.fault.CertFault.{CertFault}
use Rattle.cert_text.specs.declared.fault.CertFault.TheVariants.{Text, NoMemory}
use Rattle.cert_text.specs.Limits.{most_number, most_steps}
use Rattle.cert_text.specs.Words.{word_at, number_in, is_number, is_leaf, is_walk}
use Rattle.cert_text.specs.Faults.{later, fault_in, has_numbers}
use Rattle.cert_text.specs.Steps.{Refuses, Stops, IsLine, IsMost, TakesNumber}
use Rattle.cert_text.proofs.Lists.{list_all_seen, list_all-fails}
use Rattle.cert_text.proofs.StepLemmas.{line_taken, line_refused, fault-none}
use Rattle.cert_text.proofs.LineLemmas.{number-test, takes-two, words-parts}

-- ---- tests that fail

-- a test that is refused makes a test that rests on it refused
pub refuses : (number : ℕ) (test whole : Bool) (fault : CertFault) → (test ≡ false → whole ≡ false) → Refuses number test fault → Refuses number whole fault
refuses number test whole (Text line kind) so refused = (refused.0, refused.1, so refused.2)
refuses number test whole NoMemory so refused = tt

-- ---- words that slices are

pub seen_word : (words : List (Bor (List ℕ))) (i : ℕ) (d : Bor (List ℕ)) → i < length words → word_at (map (λ w. w.now) words) i ≡ (get_or words i d).now
seen_word words i d inside = get_or-map (λ (w : Bor (List ℕ)). w.now) words i d [] inside

pub seen_rest : (words : List (Bor (List ℕ))) (n : ℕ) → map (λ w. w.now) (take (length words - n) (drop n words)) ≡ drop n (map (λ w. w.now) words)
seen_rest words n = ap (map (λ (w : Bor (List ℕ)). w.now)) (take_rest words n) ∙ sym (drop-map (λ (w : Bor (List ℕ)). w.now) n words)

-- one word that is refused makes all refused
pub each_refused : (test : List ℕ → Bool) (words : List (Bor (List ℕ))) (i : ℕ) (d : Bor (List ℕ)) (number : ℕ) (fault : CertFault) → i < length words
    → Refuses number (test (get_or words i d).now) fault → Refuses number (list_all test (map (λ w. w.now) words)) fault
each_refused test words i d number fault inside refused =
    refuses number (test (get_or words i d).now) (list_all test (map (λ w. w.now) words)) fault
    (λ fails. list_all_seen test (λ (w : Bor (List ℕ)). w.now) words ∙ list_all-fails (λ (w : Bor (List ℕ)). test w.now) words i d inside fails) refused

-- what stands where no word does
abbrev pub no_word : Bor (List ℕ)
no_word = record { ref_ptr = (0, 0); now = [] }

-- ---- lines of a number

pub number_taken : (keyword : Keyword) (most number : ℕ) (pieces words rest : List (List ℕ)) → IsMost keyword most → IsLine keyword pieces words rest
    → is_number most (word_at words 1) ≡ true → number ≡ number_in (word_at words 1) → TakesNumber (later keyword) pieces number rest
number_taken keyword most number pieces words rest is line test told = record {
  line = line.line;
  taken = line_taken keyword pieces words rest line (number-test keyword most words is ∙ test);
  told = told ∙ ap (λ ws. number_in (word_at ws 1)) line.are_words;
}

pub number_refused : (keyword : Keyword) (most : ℕ) (pieces words rest : List (List ℕ)) (start : ℕ) (fault : CertFault) → IsMost keyword most → IsLine keyword pieces words rest
    → Refuses start (is_number most (word_at words 1)) fault → Stops (later keyword ∷ []) pieces start fault
number_refused keyword most pieces words rest start fault is line refused =
    line_refused keyword pieces words rest start fault line (refuses start (is_number most (word_at words 1)) (has_numbers keyword words) fault (λ fails. number-test keyword most words is ∙ fails) refused)

pub number_words : (keyword : Keyword) (most : ℕ) (pieces words rest : List (List ℕ)) → IsMost keyword most → IsLine keyword pieces words rest → length words ≡ 2
number_words keyword most pieces words rest is line = (takes-two keyword most (length words) is).0 (words-parts keyword words line.lawful).many

-- a number that is refused, at a word that a slice is
pub word_refused : (words : List (Bor (List ℕ))) (i : ℕ) (d : Bor (List ℕ)) (most number : ℕ) (whole : Bool) (fault : CertFault) → i < length words
    → (is_number most (word_at (map (λ w. w.now) words) i) ≡ false → whole ≡ false) → Refuses number (is_number most (get_or words i d).now) fault → Refuses number whole fault
word_refused words i d most number whole fault inside so refused =
    refuses number (is_number most (get_or words i d).now) whole fault (λ fails. so (ap (is_number most) (seen_word words i d inside) ∙ fails)) refused

-- ---- lines of tables and drops

pub table_many : (pieces words rest : List (List ℕ)) → IsLine keywords.Table pieces words rest → 3 ≤ length words
table_many pieces words rest line = leb-true 3 (length words) (words-parts keywords.Table words line.lawful).many

pub drop_many : (pieces words rest : List (List ℕ)) → IsLine keywords.Drop pieces words rest → 5 ≤ length words
drop_many pieces words rest line = leb-true 5 (length words) (words-parts keywords.Drop words line.lawful).many

pub table_numbers : (words : List (List ℕ)) → is_number most_number (word_at words 1) ≡ true → is_number most_steps (word_at words 2) ≡ true → list_all is_leaf (drop 3 words) ≡ true
    → has_numbers keywords.Table words ≡ true
unfolding has_numbers
table_numbers words gate lag leaves =
    and_from (is_number most_number (word_at words 1) && is_number most_steps (word_at words 2)) (list_all is_leaf (drop 3 words))
    (and_from (is_number most_number (word_at words 1)) (is_number most_steps (word_at words 2)) gate lag) leaves

pub table_gate_fails : (words : List (List ℕ)) → is_number most_number (word_at words 1) ≡ false → has_numbers keywords.Table words ≡ false
unfolding has_numbers
table_gate_fails words fails =
    and_left _ (list_all is_leaf (drop 3 words)) (and_left (is_number most_number (word_at words 1)) (is_number most_steps (word_at words 2)) fails)

pub table_lag_fails : (words : List (List ℕ)) → is_number most_steps (word_at words 2) ≡ false → has_numbers keywords.Table words ≡ false
unfolding has_numbers
table_lag_fails words fails =
    and_left _ (list_all is_leaf (drop 3 words)) (and_right (is_number most_number (word_at words 1)) (is_number most_steps (word_at words 2)) fails)

pub table_leaves_fail : (words : List (List ℕ)) → list_all is_leaf (drop 3 words) ≡ false → has_numbers keywords.Table words ≡ false
unfolding has_numbers
table_leaves_fail words fails = and_right (is_number most_number (word_at words 1) && is_number most_steps (word_at words 2)) (list_all is_leaf (drop 3 words)) fails

pub drop_numbers : (words : List (List ℕ)) → is_number most_number (word_at words 1) ≡ true → is_number most_steps (word_at words 2) ≡ true → is_number most_number (word_at words 3) ≡ true
    → list_all is_walk (drop 4 words) ≡ true → has_numbers keywords.Drop words ≡ true
unfolding has_numbers
drop_numbers words gate lag arrival walks =
    and_from (is_number most_number (word_at words 1) && is_number most_steps (word_at words 2) && is_number most_number (word_at words 3)) (list_all is_walk (drop 4 words))
    (and_from (is_number most_number (word_at words 1) && is_number most_steps (word_at words 2)) (is_number most_number (word_at words 3))
    (and_from (is_number most_number (word_at words 1)) (is_number most_steps (word_at words 2)) gate lag) arrival) walks

pub drop_gate_fails : (words : List (List ℕ)) → is_number most_number (word_at words 1) ≡ false → has_numbers keywords.Drop words ≡ false
unfolding has_numbers
drop_gate_fails words fails =
    and_left _ (list_all is_walk (drop 4 words)) (and_left _ (is_number most_number (word_at words 3)) (and_left (is_number most_number (word_at words 1)) (is_number most_steps (word_at words 2)) fails))

pub drop_lag_fails : (words : List (List ℕ)) → is_number most_steps (word_at words 2) ≡ false → has_numbers keywords.Drop words ≡ false
unfolding has_numbers
drop_lag_fails words fails =
    and_left _ (list_all is_walk (drop 4 words)) (and_left _ (is_number most_number (word_at words 3)) (and_right (is_number most_number (word_at words 1)) (is_number most_steps (word_at words 2)) fails))

pub drop_arrival_fails : (words : List (List ℕ)) → is_number most_number (word_at words 3) ≡ false → has_numbers keywords.Drop words ≡ false
unfolding has_numbers
drop_arrival_fails words fails =
    and_left _ (list_all is_walk (drop 4 words)) (and_right (is_number most_number (word_at words 1) && is_number most_steps (word_at words 2)) (is_number most_number (word_at words 3)) fails)

pub drop_walks_fail : (words : List (List ℕ)) → list_all is_walk (drop 4 words) ≡ false → has_numbers keywords.Drop words ≡ false
unfolding has_numbers
drop_walks_fail words fails =
    and_right (is_number most_number (word_at words 1) && is_number most_steps (word_at words 2) && is_number most_number (word_at words 3)) (list_all is_walk (drop 4 words)) fails

-- the last line has no numbers
pub end_lawful : (pieces words rest : List (List ℕ)) (line : IsLine keywords.End pieces words rest) → fault_in (later keywords.End) line.line ≡ None
unfolding has_numbers
end_lawful pieces words rest line = fault-none keywords.End line.line (rw line.are_words at line.lawful) refl
