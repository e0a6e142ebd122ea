-- Lines taken from the front of pieces, and the first fault behind them.
use Rattle.std.proofs.Common.{◌≡◌, ℕ, zero, suc, ◌+◌, ◌<◌, true, false, cond, eqb, ltb, List, [], ◌∷◌, ◌++◌, map, length, replicate, get_or, slice_get, Option, None, Some, IfNone, refl, sym, ◌∙◌, ap, subst, arith, append_assoc}
use Rattle.std.specs.List.{join_with_byte}
use Rattle.std.proofs.lemmas.Bool.{lt-ltb}
use Rattle.std.proofs.lemmas.Bool.Decides.{nat_tests}
use Rattle.std.proofs.lemmas.List.{map-append, replicate-append-replicate}
use Rattle.cert_text.specs.declared.keyword.Keyword.{Keyword}
use Rattle.cert_text.specs.declared.fault.CertFault.{CertFault}
use Rattle.cert_text.specs.declared.fault.CertFault.TheVariants.{Text, NoMemory}
use Rattle.cert_text.specs.declared.fault.CertKind.{CertKind}
use Rattle.cert_text.specs.declared.fault.CertKind.TheVariants.{Version, Word, Number, Ending}
use Rattle.cert_text.specs.Words.{words_in}
use Rattle.cert_text.specs.Faults.{Form, first, later, is_version, fault_in, fault_of, fault_at, has_words, has_numbers, pieces_of, IsFirstAt}
use Rattle.cert_text.specs.Steps.{HaveForms, Takes, StopsAt, Stops, IsLine, Refuses, TakesEach}
use Rattle.std.proofs.lemmas.List.Splits.{join_with_byte-slice_split}
use Rattle.cert_text.proofs.Lists.{length-pieces, AllZip-append, AllZip-length, replicate-split}

-- ---- the fault at a place

pub fault-first : (form : Form) (forms : List Form) (line : List ℕ) (rest : List (List ℕ)) → 0 < length rest
    → fault_at (form ∷ forms) (line ∷ rest) 0 ≡ fault_in form line
unfolding fault_at
fault-first form forms line rest some =
    ap (λ b. fault_of (Some form) b line) (lt-ltb (0 + 1) (suc (length rest)) (omega arith))

pub fault-unended : (form : Form) (forms : List Form) (pieces : List (List ℕ)) → length pieces ≡ 1
    → fault_at (form ∷ forms) pieces 0 ≡ Some Ending
unfolding fault_at
fault-unended form forms pieces one =
    ap (λ n. fault_of (Some form) (ltb (0 + 1) n) (get_or pieces 0 [])) one

next_test : (m n : ℕ) → ltb (suc m + 1) (suc n) ≡ ltb (m + 1) n
next_test m n = grind (arith, nat_tests)

pub fault-next : (form : Form) (forms : List Form) (line : List ℕ) (rest : List (List ℕ)) (place : ℕ)
    → fault_at (form ∷ forms) (line ∷ rest) (suc place) ≡ fault_at forms rest place
unfolding fault_at
fault-next form forms line rest place =
    ap (λ b. fault_of (slice_get forms place) b (get_or rest place [])) (next_test place (length rest))

-- ---- the first fault

pub first_here : (forms : List Form) (pieces : List (List ℕ)) (kind : CertKind) → fault_at forms pieces 0 ≡ Some kind → IsFirstAt forms pieces 0 kind
first_here forms pieces kind here = record { here = here; before = λ other below. absurd (omega arith) }

pub first_next : (form : Form) (forms : List Form) (line : List ℕ) (rest : List (List ℕ)) (place : ℕ) (kind : CertKind) → 0 < length rest → fault_in form line ≡ None
    → IsFirstAt forms rest place kind → IsFirstAt (form ∷ forms) (line ∷ rest) (suc place) kind
first_next form forms line rest place kind some lawful stop = record {
  here = fault-next form forms line rest place ∙ stop.here;
  before = at;
}
  where
    at : (other : ℕ) → other < suc place → fault_at (form ∷ forms) (line ∷ rest) other ≡ None
    at zero below = fault-first form forms line rest some ∙ lawful
    at (suc other) below = fault-next form forms line rest other ∙ stop.before other (omega arith)

first_after : (forms more : List Form) (lines rest : List (List ℕ)) (place : ℕ) (kind : CertKind) (after : ℕ) → 0 < length rest → HaveForms forms lines
    → IsFirstAt more rest place kind → after ≡ length lines + place → IsFirstAt (forms ++ more) (lines ++ rest) after kind
first_after [] more [] rest place kind after some each stop e =
    let same : place ≡ after = omega arith in subst (λ n. IsFirstAt more rest n kind) same stop
first_after [] more (line ∷ lines) rest place kind after some each stop e = absurd each
first_after (form ∷ forms) more [] rest place kind after some each stop e = absurd each
first_after (form ∷ forms) more (line ∷ lines) rest place kind after some each stop e =
    let inner = first_after forms more lines rest place kind (length lines + place) some each.1 stop refl in
    let same : suc (length lines + place) ≡ after = omega arith in
    let more_left : 0 < length (lines ++ rest) = longer lines rest some in
    subst (λ n. IsFirstAt (form ∷ forms ++ more) (line ∷ lines ++ rest) n kind) same
    (first_next form (forms ++ more) line (lines ++ rest) (length lines + place) kind more_left each.0 inner)
  where
    longer : (xs ys : List (List ℕ)) → 0 < length ys → 0 < length (xs ++ ys)
    longer [] ys h = h
    longer (x ∷ xs) ys h = omega arith

-- ---- stops

pub stops_here : (form : Form) (pieces : List (List ℕ)) (start : ℕ) (kind : CertKind) → ((others : List Form) → fault_at (form ∷ others) pieces 0 ≡ Some kind)
    → Stops (form ∷ []) pieces start (Text start kind)
stops_here form pieces start kind here others = (0, omega arith, first_here (form ∷ others) pieces kind (here others))

pub stops_unended : (form : Form) (pieces : List (List ℕ)) (start : ℕ) → length pieces ≡ 1 → Stops (form ∷ []) pieces start (Text start Ending)
stops_unended form pieces start one = stops_here form pieces start Ending (λ others. fault-unended form others pieces one)

pub stops_line : (form : Form) (pieces : List (List ℕ)) (line : List ℕ) (rest : List (List ℕ)) (start : ℕ) (kind : CertKind) → pieces ≡ line ∷ rest → 0 < length rest
    → fault_in form line ≡ Some kind → Stops (form ∷ []) pieces start (Text start kind)
stops_line form pieces line rest start kind whole some found =
    rw whole (stops_here form (line ∷ rest) start kind (λ others. fault-first form others line rest some ∙ found))

pub stops_after : (forms more : List Form) (pieces lines rest : List (List ℕ)) (start next : ℕ) (fault : CertFault) → Takes forms pieces lines rest
    → next ≡ start + length forms → StopsAt more rest next fault → StopsAt (forms ++ more) pieces start fault
stops_after forms more pieces lines rest start next (Text line kind) taken e stop =
    let many : length forms ≡ length lines = AllZip-length _ forms lines taken.each in
    let found = first_after forms more lines rest stop.0 kind (length lines + stop.0) taken.some taken.each stop.2 refl in
    (length lines + stop.0, omega (arith, stop.1), rw taken.whole found)
stops_after forms more pieces lines rest start next NoMemory taken e stop = tt

-- ---- lines taken

pub Takes-append : (forms more : List Form) (pieces lines rest others end : List (List ℕ)) → Takes forms pieces lines rest → Takes more rest others end
    → Takes (forms ++ more) pieces (lines ++ others) end
Takes-append forms more pieces lines rest others end front back = record {
  whole = front.whole ∙ ap (λ xs. lines ++ xs) back.whole ∙ sym (append_assoc lines others end);
  some = back.some;
  each = AllZip-append _ forms more lines others front.each back.each;
}

pub takes_line : (form : Form) (pieces : List (List ℕ)) (line : List ℕ) (rest : List (List ℕ)) → pieces ≡ line ∷ rest → 0 < length rest → fault_in form line ≡ None
    → Takes (form ∷ []) pieces (line ∷ []) rest
takes_line form pieces line rest whole some lawful = record { whole = whole; some = some; each = (lawful, tt) }

-- ---- lines of a keyword, with their words

pub fault-words : (keyword : Keyword) (line : List ℕ) → has_words keyword (words_in line) ≡ false → fault_in (later keyword) line ≡ Some Word
unfolding fault_in
fault-words keyword line fails = ap (λ b. cond b (cond (has_numbers keyword (words_in line)) None (Some Number)) (Some Word)) fails

pub fault-numbers : (keyword : Keyword) (line : List ℕ) → has_words keyword (words_in line) ≡ true → has_numbers keyword (words_in line) ≡ false → fault_in (later keyword) line ≡ Some Number
unfolding fault_in
fault-numbers keyword line lawful fails =
    ap (λ b. cond b (cond (has_numbers keyword (words_in line)) None (Some Number)) (Some Word)) lawful ∙ ap (λ b. cond b None (Some Number)) fails

pub fault-none : (keyword : Keyword) (line : List ℕ) → has_words keyword (words_in line) ≡ true → has_numbers keyword (words_in line) ≡ true → fault_in (later keyword) line ≡ None
unfolding fault_in
fault-none keyword line lawful numbers =
    ap (λ b. cond b (cond (has_numbers keyword (words_in line)) None (Some Number)) (Some Word)) lawful ∙ ap (λ b. cond b None (Some Number)) numbers

pub line_taken : (keyword : Keyword) (pieces words rest : List (List ℕ)) (is : IsLine keyword pieces words rest) → has_numbers keyword words ≡ true
    → Takes (later keyword ∷ []) pieces (is.line ∷ []) rest
line_taken keyword pieces words rest is numbers =
    takes_line (later keyword) pieces is.line rest is.whole is.some (fault-none keyword is.line (rw is.are_words at is.lawful) (rw is.are_words at numbers))

pub line_refused : (keyword : Keyword) (pieces words rest : List (List ℕ)) (start : ℕ) (fault : CertFault) → IsLine keyword pieces words rest
    → Refuses start (has_numbers keyword words) fault → Stops (later keyword ∷ []) pieces start fault
line_refused keyword pieces words rest start (Text line kind) is refused =
    let found = fault-numbers keyword is.line (rw is.are_words at is.lawful) (rw is.are_words at refused.2) in
    rw (refused.0, refused.1) (stops_line (later keyword) pieces is.line rest start Number is.whole is.some found)
line_refused keyword pieces words rest start NoMemory is refused = λ others. tt

-- ---- several lines of a keyword

pub each_none : {V : Type 0} (keyword : Keyword) (value_on : List ℕ → V) (pieces : List (List ℕ)) → 0 < length pieces → TakesEach keyword value_on 0 pieces [] pieces
each_none keyword value_on pieces some = record { lines = []; taken = record { whole = refl; some = some; each = tt }; told = refl }

pub each_one : {V : Type 0} (keyword : Keyword) (value_on : List ℕ → V) (pieces words rest : List (List ℕ)) (value : V) (is : IsLine keyword pieces words rest)
    → has_numbers keyword words ≡ true → value ≡ value_on is.line → TakesEach keyword value_on 1 pieces (value ∷ []) rest
each_one keyword value_on pieces words rest value is numbers told =
    record { lines = is.line ∷ []; taken = line_taken keyword pieces words rest is numbers; told = ap (λ v. v ∷ []) told }

pub each_more : {V : Type 0} (keyword : Keyword) (value_on : List ℕ → V) (many : ℕ) (pieces : List (List ℕ)) (values : List V) (rest : List (List ℕ)) (value : V) (end : List (List ℕ))
    → TakesEach keyword value_on many pieces values rest → TakesEach keyword value_on 1 rest (value ∷ []) end
    → TakesEach keyword value_on (many + 1) pieces (values ++ value ∷ []) end
each_more keyword value_on many pieces values rest value end before one = record {
  lines = before.lines ++ one.lines;
  taken = rw (← replicate-append-replicate many 1 (later keyword)) (Takes-append _ _ _ _ _ _ _ before.taken one.taken);
  told = ap (λ vs. vs ++ value ∷ []) before.told ∙ ap (λ vs. map value_on before.lines ++ vs) one.told ∙ sym (map-append value_on before.lines one.lines);
}

pub each_stops : {V : Type 0} (keyword : Keyword) (value_on : List ℕ → V) (i many : ℕ) (pieces : List (List ℕ)) (values : List V) (rest : List (List ℕ)) (start next : ℕ) (fault : CertFault)
    → TakesEach keyword value_on i pieces values rest → i < many → next ≡ start + i → Stops (later keyword ∷ []) rest next fault
    → Stops (replicate many (later keyword)) pieces start fault
each_stops keyword value_on i many pieces values rest start next fault before below e stop others =
    rw (← replicate-split i many (later keyword) others below)
    (stops_after (replicate i (later keyword)) _ pieces before.lines rest start next fault before.taken (omega (arith, length_replicate i)) (stop _))
  where
    length_replicate : (n : ℕ) → length (replicate n (later keyword)) ≡ n
    length_replicate zero = refl
    length_replicate (suc n) = ap suc (length_replicate n)

-- ---- the first line

pub fault-version : (line : List ℕ) → is_version line ≡ true → fault_in first line ≡ None
unfolding fault_in
fault-version line is = ap (λ b. cond b None (Some Version)) is

pub fault-no_version : (line : List ℕ) → is_version line ≡ false → fault_in first line ≡ Some Version
unfolding fault_in
fault-no_version line is = ap (λ b. cond b None (Some Version)) is

-- what a missing value tells
pub if_none : {X : Type 0} (o : Option X) (P : Type 0) → ((x : X) → o ≡ Some x → ⊥) → IfNone o P → P
if_none None P none fact = fact
if_none (Some x) P none fact = absurd (none x refl)

-- ---- behind the last line

asked_of_nothing : (pieces : List (List ℕ)) (text : List ℕ) → join_with_byte 10 pieces ≡ text → 0 < length text → 0 < length pieces → fault_at [] pieces 0 ≡ Some Ending
unfolding fault_at
asked_of_nothing [] text e some more = absurd (omega arith)
asked_of_nothing ([] ∷ []) text e some more = absurd (omega (arith, ap length e))
asked_of_nothing ((b ∷ bs) ∷ []) text e some more = refl
asked_of_nothing (piece ∷ next ∷ rest) text e some more = ap (λ b. fault_of None b piece) (lt-ltb (0 + 1) (suc (suc (length rest))) (omega arith))

pub behind_end : (form : Form) (pieces : List (List ℕ)) (line text : List ℕ) (start number : ℕ) → pieces ≡ line ∷ pieces_of text → 0 < length text → fault_in form line ≡ None
    → number ≡ start + 1 → StopsAt (form ∷ []) pieces start (Text number Ending)
behind_end form pieces line text start number whole some lawful e =
    let rest : List (List ℕ) = pieces_of text in
    let filled : 0 < length rest = length-pieces (λ (b : ℕ). eqb b 10) text in
    let here : fault_at [] rest 0 ≡ Some Ending = asked_of_nothing rest text (join_with_byte-slice_split 10 text) some filled in
    (1, e, rw whole (first_next form [] line rest 0 Ending filled lawful (first_here [] rest Ending here)))
