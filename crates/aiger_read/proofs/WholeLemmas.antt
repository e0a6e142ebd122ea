-- From lawful lines to the circuit that they spell, and what it means.
use Rattle.std.proofs.Common.{◌≡◌, ℕ, suc, ◌+◌, ◌-◌, ◌^◌, ◌<◌, ◌≤◌, Bool, true, false, cond, ltb, List, [], ◌∷◌, ◌++◌, length, Option, None, Some, Bor, inl, inr, refl, sym, ◌∙◌, ap, subst, arith, All}
use Rattle.std.specs.Prelude.{replicate, MatchOption, Result, Ok, Err, OnOk, IfOk, IfErr}
use Rattle.std.specs.List.{AllByRecursion, range_with_len}
use Rattle.std.proofs.lemmas.Bool.{ltb-true, cases_eq}
use Rattle.std.proofs.lemmas.List.{length-map, length-set, length-replicate}
use Rattle.std.proofs.lemmas.List.FromFn.{length-range_with_len}
use Rattle.std.proofs.lemmas.List.Elements.{All-from_recursion}
use Rattle.tm_circuit.specs.Plain.{Plain}
use Rattle.tm_circuit.specs.Chain.{HasCircle, rank}
use Rattle.tm_circuit.specs.Sound as sound
use Rattle.tm_circuit.specs.Sound.{IsSound}
use Rattle.tm_circuit.proofs.PeriodLemmas.{ranked-no_circle}
use Rattle.tm_circuit.proofs.Traces.{has_one_trace}
use Rattle.tm_parts.specs.Names.{HasNamesWithin}
use Rattle.blif_read.specs.declared.Limits.{Limits}
use Rattle.aiger_read.specs.declared.fault.AigerFault.{AigerFault}
use Rattle.aiger_read.specs.declared.fault.AigerFault.TheVariants.{Text, NoMemory}
use Rattle.aiger_read.specs.declared.fault.AigerKind.{AigerKind}
use Rattle.aiger_read.specs.declared.fault.AigerKind.TheVariants.{Ending}
use Rattle.aiger_read.specs.declared.header.Header.{Header}
use Rattle.aiger_read.specs.declared.statement.Statement.{Statement}
use Rattle.aiger_read.specs.Lines.{line_at, lines_of, numbers_on}
use Rattle.aiger_read.specs.Header.{header_of, counted}
use Rattle.aiger_read.specs.Statements.{role_at, statements, statement_at, defined_in, fault_in_line}
use Rattle.aiger_read.specs.Symbols.{Symbol, slot_count, symbol_in, symbol_lines, with_symbol, with_symbols, names_given}
use Rattle.aiger_read.specs.Names.{used}
use Rattle.aiger_read.specs.Circuit.{Sections, sections_in, variables_of, made_nexts, circuit_of}
use Rattle.aiger_read.specs.Faults.{Faulty, fault_at_counted, IsFirstFault, AreLawful}
use Rattle.aiger_read.specs.Text.{body_of, spelled_by, whole_fault, IsCircuitOf, IsCircuitOfLines, IsFaultOf, IsFaultOfLines, OnText}
use Rattle.aiger_read.specs.Trace.{MeansText, ShowsLiterals}
use Rattle.aiger_read.specs.Steps.{texts}
use Rattle.aiger_read.specs.Making.{IsSaid, signal_count, times_in, fault_said, IsFaultSaid, IsLoop}
use Rattle.aiger_read.proofs.LineLemmas.{lines_few}
use Rattle.aiger_read.proofs.ReadLemmas.{at_header, at_counted, header_some}
use Rattle.aiger_read.proofs.SectionLemmas.{body_sorted}
use Rattle.aiger_read.proofs.BodyLemmas.{counts_small, body_once, body_small}
use Rattle.aiger_read.proofs.DriveLemmas.{drives_of, drives-count}
use Rattle.aiger_read.proofs.LaidLemmas.{are_named, names_of, names_short}
use Rattle.aiger_read.proofs.DrivenLemmas.{are_driven, whole_driven}
use Rattle.aiger_read.proofs.SomeTrace.{shows_literals}
use Rattle.aiger_read.proofs.AnswerLemmas.{not_both}

-- ---- how much there is

with-length : (names : List (Option (List ℕ))) (o : Option Symbol) → length (with_symbol names o) ≡ length names
with-length names None = refl
with-length names (Some s) = length-set names s.0 (Some s.1)

given-length : (h : Header) (names : List (Option (List ℕ))) (lines : List (List ℕ)) → length (with_symbols h names lines) ≡ length names
given-length h names [] = refl
given-length h names (line ∷ lines) = given-length h (with_symbol names (symbol_in h line)) lines ∙ with-length names (symbol_in h line)

-- There is a name, or none, for each that may be named.
pub names-length : (h : Header) (lines : List (List ℕ)) → length (names_given h lines) ≡ slot_count h
unfolding names_given
names-length h lines = given-length h (replicate (slot_count h) None) lines ∙ length-replicate {A = Option (List ℕ)} (slot_count h) None

statements-length : (h : Header) (lines : List (List ℕ)) (n : ℕ) → length (statements h lines n) ≡ n
unfolding statements
statements-length h lines n = length-map (range_with_len 1 n) (statement_at h lines) ∙ length-range_with_len 1 n

pub body-length : (lines : List (List ℕ)) → length (body_of lines) ≡ counted (header_of lines)
unfolding body_of
body-length lines = statements-length (header_of lines) lines (counted (header_of lines))

-- the line of a place without a fault is there
line_there : (h : Header) (lines : List (List ℕ)) (place : ℕ) → fault_at_counted h lines place ≡ None → place < length lines
unfolding fault_at_counted
line_there h lines place none = ltb-true place (length lines) (by_test (ltb place (length lines)) (fault_in_line h (defined_in (statements h lines (place - 1))) (role_at h place) (numbers_on (line_at lines place))) none)
  where
    by_test : (b : Bool) (o : Option AigerKind) → cond b o (Some Ending) ≡ None → b ≡ true
    by_test true o e = refl
    by_test false o e = cc

lines_some : (lines : List (List ℕ)) → 3 ≤ length (line_at lines 0) → 0 < length lines
lines_some [] long = absurd (omega arith)
lines_some (l ∷ lines) long = omega arith

first_long : (lines : List (List ℕ)) → AreLawful lines → 3 ≤ length (line_at lines 0)
first_long lines lawful = header_some (line_at lines 0) (sym (at_header lines) ∙ lawful.each 0)

counted_inside : (lines : List (List ℕ)) → AreLawful lines → counted (header_of lines) < length lines
counted_inside lines lawful = elim (cases_eq (counted (header_of lines)) 0) [
  | inl none ↦ let some = lines_some lines (first_long lines lawful) in omega (arith, some, none)
  | inr more ↦ line_there (header_of lines) lines (counted (header_of lines))
      (sym (at_counted lines (counted (header_of lines)) (omega arith) (omega arith)) ∙ lawful.each (counted (header_of lines)))
]

pub body_few : (lines : List (List ℕ)) → AreLawful lines → length (line_at lines 0) + length lines ≤ 2 ^ 32 → length (body_of lines) + 2 < 2 ^ 32
body_few lines lawful few =
    let long = first_long lines lawful in
    let inside = counted_inside lines lawful in
    let size = body-length lines in
    omega (arith, long, inside, size, few)

-- ---- what lawful lines say

pub lines_said : (lines : List (List ℕ)) (names : List (Option (List ℕ))) → AreLawful lines → length names ≡ slot_count (header_of lines)
    → IsSaid (header_of lines) (sections_in (body_of lines)) names
lines_said lines names lawful sized =
    let sorted = body_sorted lines in
    record {
      counts = counts_small lines;
      inputs = sorted.inputs;
      latches = sorted.latches;
      outputs = sorted.outputs;
      ands = sorted.ands;
      once = λ m. subst (λ vs. times_in m vs ≤ 1) sorted.variables (body_once lines lawful m);
      small = subst (AllByRecursion (λ v. v < 2 ^ 32)) sorted.variables (body_small lines);
      sized = sized;
    }

abbrev given_by : List (List ℕ) → List (Option (List ℕ))
given_by lines = names_given (header_of lines) (symbol_lines (header_of lines) lines)

spelled_same : (limits : Limits) (lines : List (List ℕ)) → circuit_of limits.name (header_of lines) (given_by lines) (sections_in (body_of lines)) ≡ spelled_by limits lines
unfolding spelled_by
spelled_same limits lines = refl

-- the same, by what was read
pub spelled_read : (limits : Limits) (lines : List (List ℕ)) (h : Header) (body : List Statement) (names : List (Option (List ℕ))) → h ≡ header_of lines
    → body ≡ body_of lines → names ≡ names_given (header_of lines) (symbol_lines (header_of lines) lines) → circuit_of limits.name h names (sections_in body) ≡ spelled_by limits lines
spelled_read limits lines h body names is_header is_body are_names =
    ap (λ x. circuit_of limits.name x names (sections_in body)) is_header
    ∙ ap (λ x. circuit_of limits.name (header_of lines) x (sections_in body)) are_names
    ∙ ap (λ x. circuit_of limits.name (header_of lines) (given_by lines) (sections_in x)) is_body
    ∙ spelled_same limits lines

-- ---- the names

spelled_names : (limits : Limits) (lines : List (List ℕ))
    → (spelled_by limits lines).names ≡ names_of (header_of lines) (used limits.name (given_by lines)) (sections_in (body_of lines))
unfolding spelled_by circuit_of
spelled_names limits lines = refl

spelled_clock : (limits : Limits) (lines : List (List ℕ)) → (spelled_by limits lines).clock ≡ None
unfolding spelled_by circuit_of
spelled_clock limits lines = refl

all_more : (P : List ℕ → Type 0) (xs : List (List ℕ)) → AllByRecursion P xs → AllByRecursion P (xs ++ [])
all_more P [] all = tt
all_more P (x ∷ xs) all = (all.0, all_more P xs all.1)

lines_short : (limits : Limits) (lines : List (List ℕ)) → AreLawful lines → 28 ≤ limits.name → HasNamesWithin limits.name (spelled_by limits lines)
lines_short limits lines lawful room =
    let P : List ℕ → Type 0 = λ n. length n ≤ limits.name in
    let said = lines_said lines (given_by lines) lawful (names-length (header_of lines) (symbol_lines (header_of lines) lines)) in
    let named = are_named limits.name (header_of lines) (given_by lines) (sections_in (body_of lines)) said in
    let all = names_short limits.name (header_of lines) (used limits.name (given_by lines)) (sections_in (body_of lines)) named room in
    subst (λ k. All (λ n. length n ≤ limits.name) ((spelled_by limits lines).names ++ sound.clock_name k)) (sym (spelled_clock limits lines))
    (subst (λ ns. All (λ n. length n ≤ limits.name) (ns ++ [])) (sym (spelled_names limits lines))
    (All-from_recursion P _ (all_more P _ all)))

pub short_names : (limits : Limits) (text : List ℕ) (c : Plain) → 28 ≤ limits.name → IsCircuitOf limits text c → HasNamesWithin limits.name c
short_names limits text c room is = subst (HasNamesWithin limits.name) (sym is.spelled) (lines_short limits (lines_of text) is.lawful room)

-- ---- the circuit and its meaning

no_circle : (c : Plain) → IsSound c → ¬ HasCircle c.drives
no_circle c is = ranked-no_circle c.drives (rank c) is.ranked

pub lines_circuit : (limits : Limits) (lines : List (List ℕ)) (c : Plain) → AreLawful lines → whole_fault limits lines ≡ None → c ≡ spelled_by limits lines → IsSound c
    → IsCircuitOfLines limits lines c
lines_circuit limits lines c lawful whole is is_sound = record { lawful = lawful; whole = whole; spelled = is; open_ended = no_circle c is_sound }

spelled_drives : (limits : Limits) (lines : List (List ℕ)) → (spelled_by limits lines).drives ≡ drives_of (sections_in (body_of lines))
unfolding spelled_by circuit_of
spelled_drives limits lines = refl

spelled_outputs : (limits : Limits) (lines : List (List ℕ)) → (spelled_by limits lines).outputs
    ≡ range_with_len (length (variables_of (sections_in (body_of lines))) + length (made_nexts (sections_in (body_of lines)).latches)) (length (sections_in (body_of lines)).outputs)
unfolding spelled_by circuit_of
spelled_outputs limits lines = refl

pub lines_meant : (limits : Limits) (lines : List (List ℕ)) (c : Plain) → IsCircuitOfLines limits lines c → IsSound c → ShowsLiterals (body_of lines) c
lines_meant limits lines c is is_sound =
    let said = lines_said lines (given_by lines) is.lawful (names-length (header_of lines) (symbol_lines (header_of lines) lines)) in
    let driven_all = are_driven (body_of lines) (body_sorted lines).variables (whole_driven limits.signals (body_of lines) (length (spelled_by limits lines).drives) is.whole) in
    shows_literals c (sections_in (body_of lines)) (body_of lines) (has_one_trace c is_sound)
    (ap (λ (x : Plain). x.drives) is.spelled ∙ spelled_drives limits lines)
    (ap (λ (x : Plain). x.outputs) is.spelled ∙ spelled_outputs limits lines) refl said.once driven_all

-- ---- faults

pub first_of_text : (limits : Limits) (text : List ℕ) (lines : List (List ℕ)) (e : AigerFault) → lines ≡ lines_of text → OnText e (λ f. IsFaultOfLines limits lines f) → OnText e (IsFaultOf limits text)
first_of_text limits text lines (Text line kind) is fault = subst (λ ls. IsFaultOfLines limits ls (line, kind)) is fault
first_of_text limits text lines NoMemory is fault = tt

pub none_of_text : (limits : Limits) (text : List ℕ) (e : AigerFault) → OnText e (IsFaultOf limits text) → OnText e (λ _. (c : Plain) → ¬ IsCircuitOf limits text c)
none_of_text limits text (Text line kind) fault = λ c. not_both limits text c (line, kind) fault
none_of_text limits text NoMemory fault = tt

pub line_fault : (limits : Limits) (lines : List (List ℕ)) (e : AigerFault) → OnText e (IsFirstFault lines) → OnText e (λ f. IsFaultOfLines limits lines f)
line_fault limits lines (Text line kind) fault = inl fault
line_fault limits lines NoMemory fault = tt

pub whole_first : (limits : Limits) (lines : List (List ℕ)) (body : List Statement) (c : Plain) (e : AigerFault) → AreLawful lines → body ≡ body_of lines → c ≡ spelled_by limits lines
    → OnText e (IsFaultSaid limits.signals body c) → OnText e (λ f. IsFaultOfLines limits lines f)
whole_first limits lines body c (Text line kind) lawful is_body is fault =
    inr (lawful, subst (λ (x : Plain). IsFaultSaid limits.signals (body_of lines) x (line, kind)) is (subst (λ b. IsFaultSaid limits.signals b c (line, kind)) is_body fault))
whole_first limits lines body c NoMemory lawful is_body is fault = tt

-- ---- the circuit or the fault of the whole

pub said-length : (most : ℕ) (h : Header) (names : List (Option (List ℕ))) (s : Sections) → length (circuit_of most h names s).drives ≡ signal_count s
unfolding circuit_of
said-length most h names s = drives-count s

pub said_fault : (limit : ℕ) (body : List Statement) (c : Plain) (fault : Faulty) → fault_said limit body c ≡ Some fault → IsFaultSaid limit body c fault
said_fault limit body c fault is = subst (λ (o : Option Faulty). MatchOption o (IsLoop c fault) (λ first. fault ≡ first)) (sym is) refl

pub said_loop : (limit : ℕ) (body : List Statement) (c : Plain) (e : AigerFault) → fault_said limit body c ≡ None → OnText e (IsLoop c) → OnText e (IsFaultSaid limit body c)
said_loop limit body c (Text line kind) none loop = subst (λ (o : Option Faulty). MatchOption o (IsLoop c (line, kind)) (λ first. (line, kind) ≡ first)) (sym none) loop
said_loop limit body c NoMemory none loop = tt

pub on_ok : (r : Result Plain AigerFault) (P : Type 0) → P → OnOk r P
on_ok (Ok c) P p = p
on_ok (Err e) P p = tt

-- ---- what was read

-- What the lines of a text gave.
pub record IsRead (limits : Limits) (text : List ℕ) (ls : List (List ℕ)) (h : Header) (said : List Statement) (given : List (Option (List ℕ))) : Type 0 where
  pub lines : ls ≡ lines_of text
  pub lawful : AreLawful ls
  pub header : h ≡ header_of ls
  pub body : said ≡ body_of ls
  pub names : given ≡ names_given (header_of ls) (symbol_lines (header_of ls) ls)

read_circuit : (limits : Limits) (text : List ℕ) (lines : List (List ℕ)) (h : Header) (body : List Statement) (names : List (Option (List ℕ))) (c : Plain)
    → IsRead limits text lines h body names → c ≡ circuit_of limits.name h names (sections_in body) → IsSound c
    → fault_said limits.signals body (circuit_of limits.name h names (sections_in body)) ≡ None → IsCircuitOf limits text c
read_circuit limits text lines h body names c is spelled is_sound none =
    let same = spelled_read limits lines h body names is.header is.body is.names in
    let whole : whole_fault limits lines ≡ None
    = ap (λ (b : List Statement). fault_said limits.signals b (spelled_by limits lines)) (sym is.body) ∙ ap (fault_said limits.signals body) (sym same) ∙ none in
    subst (λ (ls : List (List ℕ)). IsCircuitOfLines limits ls c) is.lines (lines_circuit limits lines c is.lawful whole (spelled ∙ same) is_sound)

pub read_ok : (limits : Limits) (text : List ℕ) (lines : List (List ℕ)) (h : Header) (body : List Statement) (names : List (Option (List ℕ))) (r : Result Plain AigerFault)
    → IsRead limits text lines h body names → IfOk r (λ c. c ≡ circuit_of limits.name h names (sections_in body)) → IfOk r IsSound
    → OnOk r (fault_said limits.signals body (circuit_of limits.name h names (sections_in body)) ≡ None) → IfOk r (λ c. IsCircuitOf limits text c)
read_ok limits text lines h body names (Ok c) is spelled is_sound none = read_circuit limits text lines h body names c is spelled is_sound none
read_ok limits text lines h body names (Err e) is spelled is_sound none = tt

pub read_means : (limits : Limits) (text : List ℕ) (r : Result Plain AigerFault) → IfOk r (λ c. IsCircuitOf limits text c) → IfOk r IsSound → IfOk r (λ c. MeansText text c)
read_means limits text (Ok c) is is_sound = lines_meant limits (lines_of text) c is is_sound
read_means limits text (Err e) is is_sound = tt

pub read_fault : (limits : Limits) (text : List ℕ) (lines : List (List ℕ)) (h : Header) (body : List Statement) (names : List (Option (List ℕ))) (r : Result Plain AigerFault)
    → IsRead limits text lines h body names → IfErr r (λ e. OnText e (IsFaultSaid limits.signals body (circuit_of limits.name h names (sections_in body))))
    → IfErr r (λ e. OnText e (IsFaultOf limits text))
read_fault limits text lines h body names (Ok c) is fault = tt
read_fault limits text lines h body names (Err e) is fault =
    first_of_text limits text lines e is.lines
    (whole_first limits lines body (circuit_of limits.name h names (sections_in body)) e is.lawful is.body (spelled_read limits lines h body names is.header is.body is.names) fault)

pub read_none : (limits : Limits) (text : List ℕ) (r : Result Plain AigerFault) → IfErr r (λ e. OnText e (IsFaultOf limits text))
    → IfErr r (λ e. OnText e (λ _. (c : Plain) → ¬ IsCircuitOf limits text c))
read_none limits text (Ok c) fault = tt
read_none limits text (Err e) fault = none_of_text limits text e fault

pub read_said : (limits : Limits) (text : List ℕ) (lines : List (List ℕ)) (h : Header) (body : List Statement) (names : List (Option (List ℕ)))
    → IsRead limits text lines h body names → IsSaid h (sections_in body) names
read_said limits text lines h body names is =
    let sized : length names ≡ slot_count (header_of lines) = ap length is.names ∙ names-length (header_of lines) (symbol_lines (header_of lines) lines) in
    subst (λ (x : Header). IsSaid x (sections_in body) names) (sym is.header)
    (subst (λ (b : List Statement). IsSaid (header_of lines) (sections_in b) names) (sym is.body) (lines_said lines names is.lawful sized))

pub read_sorted : (limits : Limits) (text : List ℕ) (lines : List (List ℕ)) (h : Header) (body : List Statement) (names : List (Option (List ℕ)))
    → IsRead limits text lines h body names → defined_in body ≡ variables_of (sections_in body)
read_sorted limits text lines h body names is =
    subst (λ (b : List Statement). defined_in b ≡ variables_of (sections_in b)) (sym is.body) (body_sorted lines).variables

-- the lines of a text are few
pub read_few : (text : List ℕ) (words : List (Bor (List ℕ))) → texts words ≡ lines_of text → length text < 2 ^ 32
    → length (line_at (texts words) 0) + length words ≤ 2 ^ 32
read_few text words is short =
    let size : length (texts words) ≡ length words = length-map words (λ (w : Bor (List ℕ)). w.now) in
    let few : length (line_at (texts words) 0) + length (texts words) ≤ suc (length text) = subst (λ (ls : List (List ℕ)). length (line_at ls 0) + length ls ≤ suc (length text)) (sym is) (lines_few text) in
    omega (arith, size, few, short)
