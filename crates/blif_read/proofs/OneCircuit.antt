-- A model has at most one circuit, and none where it has a fault.
use Rattle.std.proofs.Common.{◌≡◌, ℕ, suc, zero, true, false, List, [], ◌∷◌, ◌++◌, Option, None, Some, Result, Ok, Err, map, flat_map, slice_get, refl, sym, ◌∙◌, ap, subst, bytes_eq, MatchResult, IsOkAnd}
use Rattle.std.specs.Option.{is_some}
use Rattle.std.specs.List.{list_any, list_all, AllByRecursion}
use Rattle.std.proofs.lemmas.Slice.Eq.{bytes_eq-Decides}
use Rattle.tm_circuit.specs.declared.parts.Clock.{Clock}
use Rattle.tm_circuit.specs.Plain.{Plain, Drive}
use Rattle.tm_circuit.specs.Plain as plain
use Rattle.tm_circuit.specs.Chain.{HasCircle}
use Rattle.blif_lex.specs.Words.{Line, words_of}
use Rattle.blif_lex.specs.declared.fault.LexFault.{LexFault}
use Rattle.blif_unit.specs.declared.limits.Limits.{Limits}
use Rattle.blif_unit.specs.declared.fault.BlifFault.{BlifFault}
use Rattle.blif_unit.specs.declared.fault.BlifFault.TheVariants.{Text, NoMemory}
use Rattle.blif_unit.specs.Unit as told
use Rattle.blif_unit.specs.Unit.{Told, Telling, Model, AreDistinct, over, drivers_told, outputs_told}
use Rattle.blif_unit.specs.Fault.{Faulty}
use Rattle.blif_circuit.specs.Circuit.{Reading, reading, latches_read, gates_read, readings_of, inputs_of, names_of, fault_in_names, IsSpelled, IsCircuitOfModel, IsFaultOfModel, HasLoop}
use Rattle.blif_circuit.specs.Circuit as by_name
use Rattle.blif_models.specs.Statement.{fault_of_lines}
use Rattle.blif_models.specs.Lines.{model_in}
use Rattle.blif_read.specs.Text.{IsCircuitOf, IsCircuitOfLines, IsFaultOf, IsFaultOfLines}
use Rattle.blif_unit.specs.Fault.{IsLexed, OnText}
use Rattle.blif_models.proofs.RowLemmas.{and_left, and_right}
use Rattle.blif_models.proofs.OrderlyLemmas.{driven_once, or_right_false, all_both}
use Rattle.blif_circuit.proofs.SignalNames.{names_distinct}

-- ---- a name stands at one place

absent : (n : List ℕ) (names : List (List ℕ)) (i : ℕ) → list_any (bytes_eq n) names ≡ false → slice_get names i ≡ Some n → ⊥
absent n [] i h e = cc
absent n (x ∷ names) zero h e =
    let same : n ≡ x = cc in
    let yes : bytes_eq n x ≡ true = (bytes_eq-Decides n x).1 same in
    let no : true ≡ false = rw yes at h in cc
absent n (x ∷ names) (suc i) h e = absent n names i (or_right_false (bytes_eq n x) (list_any (bytes_eq n) names) h) e

pub place_once : (names : List (List ℕ)) (i j : ℕ) (n : List ℕ) → AreDistinct names → slice_get names i ≡ Some n → slice_get names j ≡ Some n → i ≡ j
place_once [] i j n d e f = cc
place_once (x ∷ names) zero zero n d e f = refl
place_once (x ∷ names) zero (suc j) n d e f =
    let same : x ≡ n = cc in
    absurd (absent n names j (subst (λ m. list_any (bytes_eq m) names ≡ false) same d.0) f)
place_once (x ∷ names) (suc i) zero n d e f =
    let same : x ≡ n = cc in
    absurd (absent n names i (subst (λ m. list_any (bytes_eq m) names ≡ false) same d.0) e)
place_once (x ∷ names) (suc i) (suc j) n d e f = ap suc (place_once names i j n d.1 e f)

-- places that are signals, by their names
pub places_once : (names : List (List ℕ)) (xs ys : List ℕ) → AreDistinct names → map (slice_get names) xs ≡ map (slice_get names) ys
    → list_all is_some (map (slice_get names) ys) ≡ true → xs ≡ ys
places_once names [] [] d e k = refl
places_once names [] (y ∷ ys) d e k = cc
places_once names (x ∷ xs) [] d e k = cc
places_once names (x ∷ xs) (y ∷ ys) d e k = by_place (slice_get names y) refl
    (places_once names xs ys d (let rest : map (slice_get names) xs ≡ map (slice_get names) ys = cc in rest) (and_right (is_some (slice_get names y)) (list_all is_some (map (slice_get names) ys)) k))
  where
    by_place : (o : Option (List ℕ)) → slice_get names y ≡ o → xs ≡ ys → x ∷ xs ≡ y ∷ ys
    by_place (Some n) is rest =
        let there : slice_get names x ≡ Some n = (let first : slice_get names x ≡ slice_get names y = cc in first) ∙ is in
        let same : x ≡ y = place_once names x y n d there is in
        cc
    by_place None is rest = let no : is_some (slice_get names y) ≡ true = and_left (is_some (slice_get names y)) (list_all is_some (map (slice_get names) ys)) k in
        let bad : false ≡ true = rw is at no in cc

-- ---- what is read, by name

abbrev IsKnown : Reading → Type 0
IsKnown by_name.input = Unit {0}
IsKnown (by_name.latch next init) = is_some next ≡ true
IsKnown (by_name.gate pins cover) = list_all is_some pins ≡ true

pub drive_once : (names : List (List ℕ)) (x y : Drive) → AreDistinct names → reading names x ≡ reading names y → IsKnown (reading names y) → x ≡ y
drive_once names plain.input plain.input d e k = refl
drive_once names plain.input (plain.latch next init) d e k = cc
drive_once names plain.input (plain.gate pins cover) d e k = cc
drive_once names (plain.latch next init) plain.input d e k = cc
drive_once names (plain.latch next init) (plain.latch next' init') d e k =
    let there : map (slice_get names) (next ∷ []) ≡ map (slice_get names) (next' ∷ []) = cc in
    let same : next ∷ [] ≡ next' ∷ [] = places_once names (next ∷ []) (next' ∷ []) d there (rw k refl) in
    cc
drive_once names (plain.latch next init) (plain.gate pins cover) d e k = cc
drive_once names (plain.gate pins cover) plain.input d e k = cc
drive_once names (plain.gate pins cover) (plain.latch next init) d e k = cc
drive_once names (plain.gate pins cover) (plain.gate pins' cover') d e k =
    let there : map (slice_get names) pins ≡ map (slice_get names) pins' = cc in
    let same : pins ≡ pins' = places_once names pins pins' d there k in
    cc

pub drives_once : (names : List (List ℕ)) (xs ys : List Drive) → AreDistinct names → map (reading names) xs ≡ map (reading names) ys
    → AllByRecursion IsKnown (map (reading names) ys) → xs ≡ ys
drives_once names [] [] d e k = refl
drives_once names [] (y ∷ ys) d e k = cc
drives_once names (x ∷ xs) [] d e k = cc
drives_once names (x ∷ xs) (y ∷ ys) d e k =
    let first : x ≡ y = drive_once names x y d (let h : reading names x ≡ reading names y = cc in h) k.0 in
    let rest : xs ≡ ys = drives_once names xs ys d (let h : map (reading names) xs ≡ map (reading names) ys = cc in h) k.1 in
    cc

-- each reading of a statement has its names

all_some : (names : List (List ℕ)) → list_all is_some (map Some names) ≡ true
all_some [] = refl
all_some (n ∷ names) = all_some names

known_inputs : (names : List (List ℕ)) → AllByRecursion IsKnown (map (λ _. by_name.input) names)
known_inputs [] = tt
known_inputs (n ∷ names) = (tt, known_inputs names)

known_latches : (body : List Telling) → AllByRecursion IsKnown (flat_map (λ t. latches_read t.what) body)
known_latches [] = tt
known_latches (t ∷ body) = all_both IsKnown (latches_read t.what) (flat_map (λ t. latches_read t.what) body) (by_told t.what) (known_latches body)
  where
    by_told : (w : Told) → AllByRecursion IsKnown (latches_read w)
    by_told (told.latch next name init control) = (refl, tt)
    by_told (told.inputs names) = tt
    by_told (told.outputs names) = tt
    by_told (told.clock names) = tt
    by_told (told.gate pins name cover) = tt
    by_told (told.place placed bindings) = tt

known_gates : (body : List Telling) → AllByRecursion IsKnown (flat_map (λ t. gates_read t.what) body)
known_gates [] = tt
known_gates (t ∷ body) = all_both IsKnown (gates_read t.what) (flat_map (λ t. gates_read t.what) body) (by_told t.what) (known_gates body)
  where
    by_told : (w : Told) → AllByRecursion IsKnown (gates_read w)
    by_told (told.gate pins name cover) = (all_some pins, tt)
    by_told (told.inputs names) = tt
    by_told (told.outputs names) = tt
    by_told (told.clock names) = tt
    by_told (told.latch next name init control) = tt
    by_told (told.place placed bindings) = tt

pub known_all : (body : List Telling) → AllByRecursion IsKnown (readings_of body)
known_all body =
    let inputs = map (λ (_ : List ℕ). by_name.input) (inputs_of body) in
    let latches = flat_map (λ (t : Telling). latches_read t.what) body in
    all_both IsKnown (inputs ++ latches) (flat_map (λ t. gates_read t.what) body)
    (all_both IsKnown inputs latches (known_inputs (inputs_of body)) (known_latches body)) (known_gates body)

-- Circuits with the same parts are the same.
same_plain : (c d : Plain) → c.model ≡ d.model → c.clock ≡ d.clock → c.names ≡ d.names → c.drives ≡ d.drives → c.outputs ≡ d.outputs → c ≡ d
same_plain c d model clock names drives outputs =
    let with_model : List ℕ → Plain = λ x. record { model = x; clock = c.clock; names = c.names; drives = c.drives; outputs = c.outputs } in
    let with_clock : Option Clock → Plain = λ x. record { model = d.model; clock = x; names = c.names; drives = c.drives; outputs = c.outputs } in
    let with_names : List (List ℕ) → Plain = λ x. record { model = d.model; clock = d.clock; names = x; drives = c.drives; outputs = c.outputs } in
    let with_drives : List Drive → Plain = λ x. record { model = d.model; clock = d.clock; names = d.names; drives = x; outputs = c.outputs } in
    let with_outputs : List ℕ → Plain = λ x. record { model = d.model; clock = d.clock; names = d.names; drives = d.drives; outputs = x } in
    ap with_model model ∙ ap with_clock clock ∙ ap with_names names ∙ ap with_drives drives ∙ ap with_outputs outputs

-- A model whose drivers stand once spells one circuit.
pub one_circuit : (m : Model) (c d : Plain) → AreDistinct (over drivers_told m.body) → IsSpelled m c → IsSpelled m d → c ≡ d
one_circuit m c d once sc sd =
    let names : c.names ≡ d.names = sc.names ∙ sym sd.names in
    let distinct : AreDistinct d.names = rw sd.names (names_distinct m.body once) in
    let same_drives : map (reading d.names) c.drives ≡ map (reading d.names) d.drives
    = ap (λ ns. map (reading ns) c.drives) (sym names) ∙ sc.drives ∙ sym sd.drives in
    let drives : c.drives ≡ d.drives = drives_once d.names c.drives d.drives distinct same_drives (rw sd.drives (known_all m.body)) in
    let same_outputs : map (slice_get d.names) c.outputs ≡ map (slice_get d.names) d.outputs
    = ap (λ ns. map (slice_get ns) c.outputs) (sym names) ∙ sc.outputs ∙ sym sd.outputs in
    let outputs : c.outputs ≡ d.outputs = places_once d.names c.outputs d.outputs distinct same_outputs (rw sd.outputs (all_some (over outputs_told m.body))) in
    let model : c.model ≡ d.model = sc.model ∙ sym sd.model in
    let clock : c.clock ≡ d.clock = sc.clock ∙ sym sd.clock in
    same_plain c d model clock names drives outputs

-- ---- a fault leaves no circuit

pub model_excluded : (limit : ℕ) (m : Model) (f : Faulty) (c : Plain) → AreDistinct (over drivers_told m.body) → IsFaultOfModel limit m f → IsCircuitOfModel limit m c → ⊥
model_excluded limit m f c once h ic =
    let loop : HasLoop m f = rw ic.lawful at h in
    let same : loop.1.0 ≡ c = one_circuit m loop.1.0 c once loop.1.1 ic.spelled in
    ic.open_ended (subst (λ (x : Plain). HasCircle x.drives) same loop.1.2)

lines_excluded : (limits : Limits) (lines : List Line) (f : Faulty) (c : Plain) → IsFaultOfLines limits lines f → IsCircuitOfLines limits lines c → ⊥
lines_excluded limits lines f c h ic =
    let whole : IsFaultOfModel limits.signals (model_in lines) f = rw ic.lawful at h in
    model_excluded limits.signals (model_in lines) f c (driven_once lines ic.lawful) whole ic.circuit

text_excluded : (limits : Limits) (r : Result (List Line) LexFault) (f : Faulty) (c : Plain)
    → MatchResult r (λ lines. IsFaultOfLines limits lines f) (λ first. IsLexed first f) → IsOkAnd r (λ lines. IsCircuitOfLines limits lines c) → ⊥
text_excluded limits (Ok lines) f c h ic = lines_excluded limits lines f c h ic
text_excluded limits (Err e) f c h ic = ic

-- A text with a fault has no circuit.
pub excluded : (limits : Limits) (text : List ℕ) (f : Faulty) (c : Plain) → IsFaultOf limits text f → ¬ IsCircuitOf limits text c
excluded limits text f c h ic = text_excluded limits (words_of limits.name false text) f c h ic

pub excluded_all : (e : BlifFault) (limits : Limits) (text : List ℕ) → OnText e (IsFaultOf limits text)
    → OnText e (λ _. (c : Plain) → ¬ IsCircuitOf limits text c)
excluded_all (Text line kind) limits text h = λ c. excluded limits text (line, kind) c h
excluded_all NoMemory limits text h = tt

-- ---- from the model to the text

pub fault_found : (e : BlifFault) (limits : Limits) (text : List ℕ) (lines : List Line) (m : Model) → words_of limits.name false text ≡ Ok lines
    → fault_of_lines lines ≡ None → m ≡ model_in lines → OnText e (IsFaultOfModel limits.signals m) → OnText e (IsFaultOf limits text)
fault_found (Text line kind) limits text lines m words lawful is h =
    let here : IsFaultOfModel limits.signals (model_in lines) (line, kind) = subst (λ x. IsFaultOfModel limits.signals x (line, kind)) is h in
    rw (words, lawful) here
fault_found NoMemory limits text lines m words lawful is h = tt
