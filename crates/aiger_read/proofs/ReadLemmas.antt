-- Lines without a fault so far, and the first line with one.
use Rattle.std.proofs.Common.{◌≡◌, ℕ, ◌+◌, ◌-◌, ◌<◌, ◌≤◌, Bool, true, false, cond, eqb, leb, List, [], ◌∷◌, ◌++◌, length, drop, None, inl, inr, refl, sym, ◌∙◌, ap, subst, arith}
use Rattle.std.proofs.lemmas.Bool.{le-leb, cases_eq}
use Rattle.std.proofs.lemmas.Bool.Decides.{nat_tests}
use Rattle.std.proofs.lemmas.List.{flat_map_more}
use Rattle.std.proofs.lemmas.List.FromFn.{map-range_with_len_more}
use Rattle.aiger_read.specs.declared.fault.AigerFault.{AigerFault}
use Rattle.aiger_read.specs.declared.fault.AigerFault.TheVariants.{Text, NoMemory}
use Rattle.aiger_read.specs.declared.header.Header.{Header}
use Rattle.aiger_read.specs.declared.statement.Statement.{Statement}
use Rattle.aiger_read.specs.Lines.{line_at, words_in, numbers_in}
use Rattle.aiger_read.specs.Header.{header_numbers, header_in, fault_in_header, header_of, counted}
use Rattle.std.specs.Prelude.{codes, bytes_eq, slice_index_or, ◌^◌}
use Rattle.std.proofs.lemmas.Slice.Eq.{bytes_eq-Decides}
use Rattle.aiger_read.proofs.LineLemmas.{first_word}
use Rattle.aiger_read.specs.Statements.{statement_at, statements, defines, defined_in}
use Rattle.aiger_read.specs.Symbols.{symbol_lines, fault_among_symbols}
use Rattle.aiger_read.specs.Faults.{fault_at, fault_at_counted, IsFirstFault}
use Rattle.aiger_read.specs.Text.{body_of, OnText}
use Rattle.aiger_read.specs.Steps.{IsFaultOn, IsLawfulTo}

-- ---- the fault at a place, by its kind

pub at_header : (lines : List (List ℕ)) → fault_at lines 0 ≡ fault_in_header (header_numbers (line_at lines 0))
unfolding fault_at
at_header lines = refl

not_first : (place : ℕ) → 0 < place → eqb place 0 ≡ false
not_first place some = grind (arith, nat_tests)

pub at_counted : (lines : List (List ℕ)) (place : ℕ) → 0 < place → place ≤ counted (header_of lines)
    → fault_at lines place ≡ fault_at_counted (header_of lines) lines place
unfolding fault_at
at_counted lines place some within =
    ap (λ b. cond b (fault_in_header (header_numbers (line_at lines 0))) (cond (leb place (counted (header_of lines))) (fault_at_counted (header_of lines) lines place) (fault_among_symbols (header_of lines) (symbol_lines (header_of lines) lines) (place - 1 - counted (header_of lines))))) (not_first place some)
    ∙ ap (λ b. cond b (fault_at_counted (header_of lines) lines place) (fault_among_symbols (header_of lines) (symbol_lines (header_of lines) lines) (place - 1 - counted (header_of lines)))) (le-leb place (counted (header_of lines)) within)

past : (m n : ℕ) → n < m → leb m n ≡ false
past m n h = grind (arith, nat_tests)

pub at_symbol : (lines : List (List ℕ)) (k : ℕ)
    → fault_at lines ((1 + counted (header_of lines)) + k) ≡ fault_among_symbols (header_of lines) (symbol_lines (header_of lines) lines) k
unfolding fault_at
at_symbol lines k =
    let place : ℕ = (1 + counted (header_of lines)) + k in
    let same : ((1 + counted (header_of lines)) + k) - 1 - counted (header_of lines) ≡ k = omega arith in
    ap (λ b. cond b (fault_in_header (header_numbers (line_at lines 0))) (cond (leb ((1 + counted (header_of lines)) + k) (counted (header_of lines))) (fault_at_counted (header_of lines) lines ((1 + counted (header_of lines)) + k)) (fault_among_symbols (header_of lines) (symbol_lines (header_of lines) lines) (((1 + counted (header_of lines)) + k) - 1 - counted (header_of lines))))) (not_first ((1 + counted (header_of lines)) + k) (omega arith))
    ∙ ap (λ b. cond b (fault_at_counted (header_of lines) lines ((1 + counted (header_of lines)) + k)) (fault_among_symbols (header_of lines) (symbol_lines (header_of lines) lines) (((1 + counted (header_of lines)) + k) - 1 - counted (header_of lines)))) (past ((1 + counted (header_of lines)) + k) (counted (header_of lines)) (omega arith))
    ∙ ap (λ j. fault_among_symbols (header_of lines) (symbol_lines (header_of lines) lines) j) same

-- ---- lawful up to a place

pub lawful_more : (lines : List (List ℕ)) (end : ℕ) → IsLawfulTo lines end → fault_at lines end ≡ None → IsLawfulTo lines (end + 1)
lawful_more lines end so_far here = record {
  each = λ place below. elim (cases_eq place end) [
    | inl same ↦ ap (fault_at lines) same ∙ here
    | inr other ↦ so_far.each place (omega arith)
  ];
}

pub lawful_first : (lines : List (List ℕ)) → fault_at lines 0 ≡ None → IsLawfulTo lines 1
lawful_first lines here = record { each = λ place below. let first : place ≡ 0 = omega arith in ap (fault_at lines) first ∙ here }

pub first_fault : (lines : List (List ℕ)) (place : ℕ) (e : AigerFault) → IsLawfulTo lines place → IsFaultOn e (place + 1) (fault_at lines place)
    → OnText e (IsFirstFault lines)
first_fault lines place (Text line kind) so_far fault = record { place = place; numbered = omega (arith, fault.0); here = fault.1; before = so_far.each }
first_fault lines place NoMemory so_far fault = tt

-- ---- what lines say

pub statements_none : (h : Header) (lines : List (List ℕ)) → statements h lines 0 ≡ []
unfolding statements
statements_none h lines = refl

pub statements_more : (h : Header) (lines : List (List ℕ)) (n : ℕ) → statements h lines (n + 1) ≡ statements h lines n ++ statement_at h lines (n + 1) ∷ []
unfolding statements
statements_more h lines n = map-range_with_len_more (statement_at h lines) 1 n (n + 1) (omega arith)

pub defined_more : (body : List Statement) (s : Statement) → defined_in body ++ defines s ≡ defined_in (body ++ s ∷ [])
defined_more body s = flat_map_more defines [] body s

pub body_whole : (lines : List (List ℕ)) (h : Header) → h ≡ header_of lines → statements h lines (counted h) ≡ body_of lines
unfolding body_of
body_whole lines h is = ap (λ x. statements x lines (counted x)) is

-- ---- the first line

header_long : (line : List ℕ) (b : Bool) → bytes_eq (slice_index_or (words_in line) 0 []) (codes "aag") ≡ b
    → fault_in_header (cond b (numbers_in (drop 1 (words_in line))) []) ≡ None → 3 ≤ length line
unfolding fault_in_header
header_long line true is none =
    let word : slice_index_or (words_in line) 0 [] ≡ codes "aag" = (bytes_eq-Decides (slice_index_or (words_in line) 0 []) (codes "aag")).0 is in
    let size : length (slice_index_or (words_in line) 0 []) ≡ 3 = ap length word in
    let within = first_word line in
    omega (arith, size, within)
header_long line false is none = cc

-- A first line without a fault is no empty one.
pub header_some : (line : List ℕ) → fault_in_header (header_numbers line) ≡ None → 3 ≤ length line
unfolding header_numbers
header_some line none = header_long line (bytes_eq (slice_index_or (words_in line) 0 []) (codes "aag")) refl none

pub header_same : (lines : List (List ℕ)) (line : List ℕ) (h : Header) → line ≡ line_at lines 0 → h ≡ header_in (header_numbers line) → h ≡ header_of lines
unfolding header_of
header_same lines line h first is = is ∙ ap (λ l. header_in (header_numbers l)) first

pub header_lawful : (lines : List (List ℕ)) (line : List ℕ) → line ≡ line_at lines 0 → fault_in_header (header_numbers line) ≡ None → fault_at lines 0 ≡ None
header_lawful lines line first none = at_header lines ∙ ap (λ l. fault_in_header (header_numbers l)) (sym first) ∙ none

pub header_few : (lines : List (List ℕ)) (line : List ℕ) → line ≡ line_at lines 0 → fault_in_header (header_numbers line) ≡ None → length (line_at lines 0) + length lines ≤ 2 ^ 32
    → (length lines + 1 < 2 ^ 32) × (0 < length lines)
header_few lines line first none few =
    let long = header_some line none in
    let same : length line ≡ length (line_at lines 0) = ap length first in
    (omega (arith, long, same, few), some lines line first long)
  where
    some : (lines : List (List ℕ)) (line : List ℕ) → line ≡ line_at lines 0 → 3 ≤ length line → 0 < length lines
    some [] line first long = let none : length line ≡ 0 = ap length first in absurd (omega (arith, none, long))
    some (l ∷ lines) line first long = omega arith

pub header_fault : (lines : List (List ℕ)) (line : List ℕ) (e : AigerFault) → line ≡ line_at lines 0 → IsFaultOn e 1 (fault_in_header (header_numbers line)) → OnText e (IsFirstFault lines)
header_fault lines line (Text number kind) first fault = record {
  place = 0;
  numbered = omega (arith, fault.0);
  here = at_header lines ∙ ap (λ l. fault_in_header (header_numbers l)) (sym first) ∙ fault.1;
  before = λ other below. absurd (omega arith);
}
header_fault lines line NoMemory first fault = tt

-- ---- one counted line more

counted_none : (lines : List (List ℕ)) (h : Header) (k : ℕ) → h ≡ header_of lines → k < counted h → fault_at lines (k + 1) ≡ fault_at_counted h lines (k + 1)
counted_none lines h k is below =
    at_counted lines (k + 1) (omega arith) (subst (λ (x : Header). k + 1 ≤ counted x) is (omega arith)) ∙ ap (λ (x : Header). fault_at_counted x lines (k + 1)) (sym is)

pub step_lawful : (lines : List (List ℕ)) (h : Header) (k : ℕ) → h ≡ header_of lines → k < counted h → IsLawfulTo lines (k + 1) → fault_at_counted h lines (k + 1) ≡ None
    → IsLawfulTo lines ((k + 1) + 1)
step_lawful lines h k is below so_far none = lawful_more lines (k + 1) so_far (counted_none lines h k is below ∙ none)

pub step_fault : (lines : List (List ℕ)) (h : Header) (k : ℕ) (e : AigerFault) → h ≡ header_of lines → k < counted h → IsLawfulTo lines (k + 1)
    → IsFaultOn e ((k + 1) + 1) (fault_at_counted h lines (k + 1)) → OnText e (IsFirstFault lines)
step_fault lines h k e is below so_far fault =
    first_fault lines (k + 1) e so_far (subst (λ o. IsFaultOn e ((k + 1) + 1) o) (sym (counted_none lines h k is below)) fault)

pub step_body : (h : Header) (lines : List (List ℕ)) (k : ℕ) (body more : List Statement) → body ≡ statements h lines k → more ≡ body ++ statement_at h lines (k + 1) ∷ []
    → more ≡ statements h lines (k + 1)
step_body h lines k body more so_far is = is ∙ ap (λ b. b ++ statement_at h lines (k + 1) ∷ []) so_far ∙ sym (statements_more h lines k)

pub step_variables : (h : Header) (lines : List (List ℕ)) (k : ℕ) (vs more : List ℕ) → vs ≡ defined_in (statements h lines k) → more ≡ vs ++ defines (statement_at h lines (k + 1))
    → more ≡ defined_in (statements h lines (k + 1))
step_variables h lines k vs more so_far is =
    is ∙ ap (λ v. v ++ defines (statement_at h lines (k + 1))) so_far ∙ defined_more (statements h lines k) (statement_at h lines (k + 1))
    ∙ ap defined_in (sym (statements_more h lines k))
