-- A text has a circuit or a fault: where no name is at fault, the statements spell a circuit, which has a circle of gates or none.
use Rattle.std.proofs.Common.{◌≡◌, ◌≢◌, ◌⊎◌, inl, inr, ℕ, ◌+◌, suc, Bool, true, false, ◌&&◌, List, [], ◌∷◌, ◌++◌, Option, None, Some, Result, Ok, Err, map, flat_map, slice_get, refl, sym, ◌∙◌, ap, arith, bytes_eq, MatchOption, MatchResult, IsOkAnd}
use Rattle.std.specs.List.{list_any, list_all, position_or_len}
use Rattle.std.proofs.lemmas.List.{map-append}
use Rattle.std.proofs.lemmas.List.Folds.{list_all-append}
use Rattle.std.proofs.lemmas.Slice.Eq.{bytes_eq-Decides}
use Rattle.tm_circuit.specs.Plain.{Plain, Drive}
use Rattle.tm_circuit.specs.Plain as plain
use Rattle.tm_circuit.specs.Chain.{HasCircle}
use Rattle.blif_lex.specs.Words.{Line, words_of, lines_of, faults_of, fault_in, unless_fault}
use Rattle.blif_lex.specs.declared.fault.LexKind.{LexKind}
use Rattle.blif_lex.specs.declared.fault.LexFault.{LexFault}
use Rattle.blif_lex.specs.declared.fault.LexFault.TheVariants as lex
use Rattle.blif_unit.specs.declared.limits.Limits.{Limits}
use Rattle.blif_unit.specs.declared.fault.BlifKind.TheVariants.{Loop}
use Rattle.blif_unit.specs.Unit as told
use Rattle.blif_unit.specs.Unit.{Told, Telling, Model, over, uses_told, outputs_told}
use Rattle.blif_circuit.specs.Circuit as by_name
use Rattle.blif_unit.specs.Fault.{Faulty}
use Rattle.blif_circuit.specs.Circuit.{Reading, reading, latches_read, gates_read, readings_of, inputs_of, names_of, clock_in, fault_in_names, IsSpelled, IsCircuitOfModel, IsFaultOfModel, HasLoop}
use Rattle.blif_models.specs.Statement.{fault_of_lines}
use Rattle.blif_models.specs.Lines.{model_in}
use Rattle.blif_unit.specs.Fault.{kind_of, IsLexed}
use Rattle.blif_read.specs.Text.{IsCircuitOf, IsCircuitOfLines, IsFaultOf, IsFaultOfLines}
use Rattle.blif_models.proofs.RowLemmas.{and_left, and_right}
use Rattle.blif_models.proofs.OrderlyLemmas.{driven_once}
use Rattle.blif_read.proofs.OneCircuit.{one_circuit}
use Rattle.blif_circuit.proofs.CircleDecided.{circle_decided}
use Rattle.blif_circuit.proofs.SignalFaults.{faultless, uses_known, outputs_known}

-- the number of the signal with a name
abbrev number_of : List (List ℕ) → List ℕ → ℕ
number_of names n = position_or_len (bytes_eq n) names

abbrev is_signal : List (List ℕ) → List ℕ → Bool
is_signal names n = list_any (bytes_eq n) names

found : (n : List ℕ) (names : List (List ℕ)) → is_signal names n ≡ true → slice_get names (number_of names n) ≡ Some n
found n [] h = cc
found n (x ∷ names) h = by_test (bytes_eq n x) refl (found n names)
  where
    by_test : (t : Bool) → bytes_eq n x ≡ t → (is_signal names n ≡ true → slice_get names (number_of names n) ≡ Some n)
        → slice_get (x ∷ names) (number_of (x ∷ names) n) ≡ Some n
    by_test true is rest = let same : n ≡ x = (bytes_eq-Decides n x).0 is in rw is (ap Some (sym same))
    by_test false is rest =
        let there : is_signal names n ≡ true = rw is at h in
        let next : 1 + number_of names n ≡ suc (number_of names n) = omega arith in
        rw (is, next) (rest there)

all_found : (names ns : List (List ℕ)) → list_all (is_signal names) ns ≡ true → map (slice_get names) (map (number_of names) ns) ≡ map Some ns
all_found names [] h = refl
all_found names (n ∷ ns) h =
    let first : slice_get names (number_of names n) ≡ Some n = found n names (and_left (is_signal names n) (list_all (is_signal names) ns) h) in
    let rest : map (slice_get names) (map (number_of names) ns) ≡ map Some ns = all_found names ns (and_right (is_signal names n) (list_all (is_signal names) ns) h) in
    rw (first, rest) refl

-- what a statement drives, in numbers
abbrev latch_drives : List (List ℕ) → Told → List Drive
latch_drives names (told.latch next name init control) = plain.latch (number_of names next) init ∷ []
latch_drives names _ = []

abbrev gate_drives : List (List ℕ) → Told → List Drive
gate_drives names (told.gate pins name cover) = plain.gate (map (number_of names) pins) cover ∷ []
gate_drives names _ = []

inputs_spelled : (names inputs : List (List ℕ)) → map (reading names) (map (λ _. plain.input) inputs) ≡ map (λ _. by_name.input) inputs
inputs_spelled names [] = refl
inputs_spelled names (n ∷ inputs) = ap (λ rs. by_name.input ∷ rs) (inputs_spelled names inputs)

latch_spelled : (names : List (List ℕ)) (w : Told) → list_all (is_signal names) (uses_told w) ≡ true → map (reading names) (latch_drives names w) ≡ latches_read w
latch_spelled names (told.latch next name init control) h =
    let there : slice_get names (number_of names next) ≡ Some next = found next names (and_left (is_signal names next) true h) in rw there refl
latch_spelled names (told.inputs ns) h = refl
latch_spelled names (told.outputs ns) h = refl
latch_spelled names (told.clock ns) h = refl
latch_spelled names (told.gate pins name cover) h = refl
latch_spelled names (told.place placed bindings) h = refl

gate_spelled : (names : List (List ℕ)) (w : Told) → list_all (is_signal names) (uses_told w) ≡ true → map (reading names) (gate_drives names w) ≡ gates_read w
gate_spelled names (told.gate pins name cover) h = rw (all_found names pins h) refl
gate_spelled names (told.inputs ns) h = refl
gate_spelled names (told.outputs ns) h = refl
gate_spelled names (told.clock ns) h = refl
gate_spelled names (told.latch next name init control) h = refl
gate_spelled names (told.place placed bindings) h = refl

all_spelled : (names : List (List ℕ)) (drives : Told → List Drive) (reads : Told → List Reading)
    → ((w : Told) → list_all (is_signal names) (uses_told w) ≡ true → map (reading names) (drives w) ≡ reads w)
    → (body : List Telling) → list_all (is_signal names) (over uses_told body) ≡ true
    → map (reading names) (flat_map (λ t. drives t.what) body) ≡ flat_map (λ t. reads t.what) body
all_spelled names drives reads each [] h = refl
all_spelled names drives reads each (t ∷ body) h =
    let both : list_all (is_signal names) (uses_told t.what) && list_all (is_signal names) (over uses_told body) ≡ true
    = sym (list_all-append (is_signal names) (uses_told t.what) (over uses_told body)) ∙ h in
    let first : map (reading names) (drives t.what) ≡ reads t.what = each t.what (and_left _ _ both) in
    let rest : map (reading names) (flat_map (λ t. drives t.what) body) ≡ flat_map (λ t. reads t.what) body
    = all_spelled names drives reads each body (and_right (list_all (is_signal names) (uses_told t.what)) _ both) in
    map-append (reading names) (drives t.what) (flat_map (λ t. drives t.what) body) ∙ rw (first, rest) refl

-- Where no name is at fault, the statements of a model spell a circuit.
pub some_circuit : (limit : ℕ) (m : Model) → fault_in_names limit m.body ≡ None → (c : Plain) × IsSpelled m c
some_circuit limit m h =
    let names = names_of m.body in
    let known = uses_known limit m.body (faultless limit m.body h) in
    let inputs = map (λ (_ : List ℕ). plain.input) (inputs_of m.body) in
    let latches = flat_map (λ (t : Telling). latch_drives names t.what) m.body in
    let gates = flat_map (λ (t : Telling). gate_drives names t.what) m.body in
    let drives : map (reading names) (inputs ++ latches ++ gates) ≡ readings_of m.body
    = map-append (reading names) (inputs ++ latches) gates
    ∙ ap (λ rs. rs ++ map (reading names) gates) (map-append (reading names) inputs latches)
    ∙ rw (
      inputs_spelled names (inputs_of m.body),
      all_spelled names (latch_drives names) latches_read (latch_spelled names) m.body known.each,
      all_spelled names (gate_drives names) gates_read (gate_spelled names) m.body known.each,
    ) refl in
    let c : Plain = record {
      model = m.name;
      clock = clock_in m.body;
      names = names;
      drives = inputs ++ latches ++ gates;
      outputs = map (number_of names) (over outputs_told m.body);
    } in (
      c,
      record {
        model = refl;
        clock = refl;
        names = refl;
        drives = drives;
        outputs = all_found names (over outputs_told m.body) (outputs_known names m.body known).each;
      },
    )

-- ---- a circuit or a fault

pub model_decided : (limit : ℕ) (m : Model) → ((c : Plain) × IsCircuitOfModel limit m c) ⊎ ((f : Faulty) × IsFaultOfModel limit m f)
model_decided limit m = by_names (fault_in_names limit m.body) refl
  where
    by_circle : (c : Plain) → IsSpelled m c → fault_in_names limit m.body ≡ None → HasCircle c.drives ⊎ ¬ HasCircle c.drives
        → ((c : Plain) × IsCircuitOfModel limit m c) ⊎ ((f : Faulty) × IsFaultOfModel limit m f)
    by_circle c spelled is (inl circle) = inr ((0, Loop), rw is (refl, (c, spelled, circle)))
    by_circle c spelled is (inr open_ended) = inl (c, record { lawful = is; spelled = spelled; open_ended = open_ended })

    by_names : (o : Option Faulty) → fault_in_names limit m.body ≡ o → ((c : Plain) × IsCircuitOfModel limit m c) ⊎ ((f : Faulty) × IsFaultOfModel limit m f)
    by_names (Some f) is = inr (f, rw is refl)
    by_names None is = let some = some_circuit limit m is in by_circle some.0 some.1 is (circle_decided some.0.drives)

lines_decided : (limits : Limits) (lines : List Line) → ((c : Plain) × IsCircuitOfLines limits lines c) ⊎ ((f : Faulty) × IsFaultOfLines limits lines f)
lines_decided limits lines = by_lines (fault_of_lines lines) refl
  where
    by_lines : (o : Option Faulty) → fault_of_lines lines ≡ o → ((c : Plain) × IsCircuitOfLines limits lines c) ⊎ ((f : Faulty) × IsFaultOfLines limits lines f)
    by_lines (Some f) is = inr (f, rw is refl)
    by_lines None is = elim (model_decided limits.signals (model_in lines)) [
      | inl circuit ↦ inl (circuit.0, record { lawful = is; circuit = circuit.1 })
      | inr fault ↦ inr (fault.0, rw is fault.1)
    ]

text_decided : (limits : Limits) (r : Result (List Line) LexFault) → ((e : LexFault) → r ≡ Err e → e ≢ lex.NoMemory)
    → ((c : Plain) × IsOkAnd r (λ lines. IsCircuitOfLines limits lines c))
    ⊎ ((f : Faulty) × MatchResult r (λ lines. IsFaultOfLines limits lines f) (λ first. IsLexed first f))
text_decided limits (Ok lines) named = lines_decided limits lines
text_decided limits (Err (lex.Text line kind)) named = inr ((line, kind_of kind), refl)
text_decided limits (Err lex.NoMemory) named = absurd (named lex.NoMemory refl refl)

-- the words of a text are never want of memory
fault_is_text : (name : ℕ) (bindings : Bool) (lines : List Line) (e : LexFault) (rest : List LexFault) → faults_of name bindings lines ≡ e ∷ rest → e ≢ lex.NoMemory
fault_is_text name bindings [] e rest h = cc
fault_is_text name bindings (l ∷ lines) e rest h = by_fault (fault_in name bindings l.words) refl (fault_is_text name bindings lines e rest)
  where
    by_fault : (o : Option LexKind) → fault_in name bindings l.words ≡ o → (faults_of name bindings lines ≡ e ∷ rest → e ≢ lex.NoMemory) → e ≢ lex.NoMemory
    by_fault None is more = let later : faults_of name bindings lines ≡ e ∷ rest = rw is at h in more later
    by_fault (Some kind) is more = λ none.
        let first : lex.Text l.number kind ∷ faults_of name bindings lines ≡ e ∷ rest = rw is at h in
        let same : lex.Text l.number kind ≡ e = cc in
        let no : lex.Text l.number kind ≡ lex.NoMemory = same ∙ none in cc

unless_text : (fs : List LexFault) (lines : List Line) → ((e : LexFault) (rest : List LexFault) → fs ≡ e ∷ rest → e ≢ lex.NoMemory)
    → (e : LexFault) → unless_fault fs lines ≡ Err e → e ≢ lex.NoMemory
unless_text [] lines each e h = cc
unless_text (f ∷ fs) lines each e h = let same : f ≡ e = cc in each e fs (ap (λ x. x ∷ fs) same)

pub words_named : (name : ℕ) (bindings : Bool) (text : List ℕ) (e : LexFault) → words_of name bindings text ≡ Err e → e ≢ lex.NoMemory
unfolding words_of
words_named name bindings text e h =
    unless_text (faults_of name bindings (lines_of text)) (lines_of text) (fault_is_text name bindings (lines_of text)) e h

-- A text has a circuit or a first fault.
pub decided : (limits : Limits) (text : List ℕ) → ((c : Plain) × IsCircuitOf limits text c) ⊎ ((f : Faulty) × IsFaultOf limits text f)
decided limits text = text_decided limits (words_of limits.name false text) (words_named limits.name false text)

-- ---- one circuit, one fault

lines_circuit : (limits : Limits) (lines : List Line) (c d : Plain) → IsCircuitOfLines limits lines c → IsCircuitOfLines limits lines d → c ≡ d
lines_circuit limits lines c d ic id = one_circuit (model_in lines) c d (driven_once lines ic.lawful) ic.circuit.spelled id.circuit.spelled

text_circuit : (limits : Limits) (r : Result (List Line) LexFault) (c d : Plain)
    → IsOkAnd r (λ lines. IsCircuitOfLines limits lines c) → IsOkAnd r (λ lines. IsCircuitOfLines limits lines d) → c ≡ d
text_circuit limits (Ok lines) c d ic id = lines_circuit limits lines c d ic id
text_circuit limits (Err e) c d ic id = absurd ic

-- A text has at most one circuit.
pub same_circuit : (limits : Limits) (text : List ℕ) (c d : Plain) → IsCircuitOf limits text c → IsCircuitOf limits text d → c ≡ d
same_circuit limits text c d ic id = text_circuit limits (words_of limits.name false text) c d ic id

pub option_fault : (o : Option Faulty) (P : Faulty → Type 0) (f g : Faulty) → (P f → P g → f ≡ g)
    → MatchOption o (P f) (λ first. f ≡ first) → MatchOption o (P g) (λ first. g ≡ first) → f ≡ g
option_fault None P f g both p q = both p q
option_fault (Some first) P f g both p q = p ∙ sym q

lines_fault : (limits : Limits) (lines : List Line) (f g : Faulty) → IsFaultOfLines limits lines f → IsFaultOfLines limits lines g → f ≡ g
lines_fault limits lines f g =
    option_fault (fault_of_lines lines) (IsFaultOfModel limits.signals (model_in lines)) f g
    (option_fault (fault_in_names limits.signals (model_in lines).body) (HasLoop (model_in lines)) f g (λ p q. p.0 ∙ sym q.0))

pub lexed_fault : (e : LexFault) (f g : Faulty) → IsLexed e f → IsLexed e g → f ≡ g
lexed_fault (lex.Text line kind) f g p q = p ∙ sym q
lexed_fault lex.NoMemory f g p q = absurd p

text_fault : (limits : Limits) (r : Result (List Line) LexFault) (f g : Faulty)
    → MatchResult r (λ lines. IsFaultOfLines limits lines f) (λ first. IsLexed first f)
    → MatchResult r (λ lines. IsFaultOfLines limits lines g) (λ first. IsLexed first g) → f ≡ g
text_fault limits (Ok lines) f g p q = lines_fault limits lines f g p q
text_fault limits (Err e) f g p q = lexed_fault e f g p q

-- A text has at most one first fault.
pub same_fault : (limits : Limits) (text : List ℕ) (f g : Faulty) → IsFaultOf limits text f → IsFaultOf limits text g → f ≡ g
same_fault limits text f g p q = text_fault limits (words_of limits.name false text) f g p q
