-- One more signal among the parts.
use Rattle.std.proofs.Common.{◌≡◌, ℕ, suc, ◌+◌, ◌-◌, ◌<◌, ◌≤◌, ◌⊎◌, inl, inr, Bool, true, cond, ltb, Option, List, [], ◌∷◌, ◌++◌, map, take, get_or, length, Some, slice_get, refl, sym, ◌∙◌, ap, subst, append_assoc, arith}
use Rattle.std.specs.Prelude.{All, slice_index, slice_index_or, if◌then◌else◌}
use Rattle.std.proofs.lemmas.List.{append-nil, map-append, take_all, take_more, length-take-le}
use Rattle.std.proofs.lemmas.List.Elements.{All-head, All-tail}
use Rattle.std.proofs.lemmas.Option.{get_or_from_slice_get, slice_get_within}
use Rattle.tm_circuit.specs.declared.parts.Parts.{Parts}
use Rattle.tm_circuit.specs.declared.parts.GatePart.{GatePart}
use Rattle.tm_circuit.specs.declared.parts.LatchPart.{LatchPart}
use Rattle.tm_circuit.specs.Plain.{Plain, Drive, input, latch, gate, input_count, latch_count}
use Rattle.tm_circuit.specs.declared.parts.Clock.{Clock}
use Rattle.tm_circuit.specs.Sound.{IsPlaced, ReadsBelow}
use Rattle.tm_circuit.specs.Build.{circuit_of}
use Rattle.tm_split.specs.declared.piece.Wire.{Wire}
use Rattle.tm_split.specs.declared.piece.Wire.TheVariants.{Pin, Made}
use Rattle.tm_split.specs.declared.piece.Piece.{Piece}
use Rattle.tm_split.specs.declared.piece.Piece.TheVariants.{NoRow, BareRow, Alone, Both, Either}
use Rattle.tm_split.specs.Pieces.{is_empty, rows_of, pieces_of}
use Rattle.tm_parts.specs.Parts.{HasFrame, HasFirstSignals}
use Rattle.tm_parts.specs.Runs.{joiner_of}
use Rattle.tm_parts.proofs.Growing.{one_more, more_gates}
use Rattle.tm_split.specs.Names.{tilde}
use Rattle.tm_split.specs.Counts.{AreNumbers}
use Rattle.tm_split.specs.Subject.{extra, first_number, number, wire_number, piece_drive, gates_of, drives_for, names_for, in_places, names_at, drives_at, subject_of}
use Rattle.tm_split.specs.Making.{IsWireOf, IsWired, AreWired, GainsPlace}
use Rattle.tm_split.proofs.Whole.{pieces_wired}
use Rattle.tm_split.proofs.Literals.{rows_of_literals, rows_wired_by}
use Rattle.tm_split.proofs.Numbers.{first_next, first_within}

-- ---- one place more

pub in_places_push : {X : Type 0} (at : ℕ → Drive → List X) (s : ℕ) (ds : List Drive) (d : Drive)
    → in_places at s (ds ++ d ∷ []) ≡ in_places at s ds ++ at (s + length ds) d
in_places_push at s [] d =
    let same : s ≡ s + 0 = omega arith in
    append-nil (at s d) ∙ ap (λ n. at n d) same
in_places_push at s (e ∷ ds) d =
    let same : suc s + length ds ≡ s + suc (length ds) = omega arith in
    ap (λ xs. at s e ++ xs) (in_places_push at (suc s) ds d)
    ∙ (sym (append_assoc (at s e) (in_places at (suc s) ds) (at (suc s + length ds) d))
    ∙ ap (λ n. (at s e ++ in_places at (suc s) ds) ++ at n d) same)

pub places_more : {X : Type 0} (at : ℕ → Drive → List X) (ds : List Drive) (s : ℕ) (d : Drive) → slice_get ds s ≡ Some d
    → in_places at 0 (take (s + 1) ds) ≡ in_places at 0 (take s ds) ++ at s d
places_more at ds s d is =
    let within : s < length ds = slice_get_within ds s d is in
    let here : get_or ds s d ≡ d = get_or_from_slice_get ds s d d is in
    let one : take (s + 1) ds ≡ take s ds ++ d ∷ [] = take_more ds s d within ∙ ap (λ e. take s ds ++ e ∷ []) here in
    let count : 0 + length (take s ds) ≡ s = omega (arith, length-take-le s ds (omega arith)) in
    ap (λ es. in_places at 0 es) one ∙ (in_places_push at 0 (take s ds) d ∙ ap (λ n. in_places at 0 (take s ds) ++ at n d) count)

-- ---- one more signal

-- What is known of the signal that comes next: its name, its drive, and what stands in its place by the numbers of the code.
pub record IsNext (k : ℕ) (c : Plain) (s : ℕ) (name : List ℕ) (d : Drive) (joiner numbers : List ℕ) (own : ℕ) : Type 0 where
  pub name_is : slice_get c.names s ≡ Some name
  pub drive_is : slice_get c.drives s ≡ Some d
  pub placed : IsPlaced (input_count c.drives) (latch_count c.drives) s d
  pub names : names_for k name joiner d ≡ names_at k c s d
  pub drives : drives_for k (slice_index numbers) (own - extra k d) d ≡ drives_at k c s d

-- The parts have what stands in the places of the first signals, so many.
abbrev pub HasFirstPlaces : ℕ → Plain → Parts → ℕ → Type 0
HasFirstPlaces k c parts s = HasFirstSignals c (in_places (names_at k c) 0 (take s c.drives)) (in_places (drives_at k c) 0 (take s c.drives)) parts s

-- What the places so far and the next one have is what the places have up to it.
places_with : (k : ℕ) (c : Plain) (new : Parts) (s : ℕ) (name : List ℕ) (d : Drive) (joiner numbers : List ℕ) (own : ℕ)
    → IsNext k c s name d joiner numbers own
    → HasFirstSignals c (in_places (names_at k c) 0 (take s c.drives) ++ names_for k name joiner d) (in_places (drives_at k c) 0 (take s c.drives) ++ drives_for k (slice_index numbers) (own - extra k d) d) new (s + 1)
    → HasFirstPlaces k c new (s + 1)
places_with k c new s name d joiner numbers own next has =
    let names : in_places (names_at k c) 0 (take s c.drives) ++ names_for k name joiner d ≡ in_places (names_at k c) 0 (take (s + 1) c.drives) =
    ap (λ xs. in_places (names_at k c) 0 (take s c.drives) ++ xs) next.names ∙ sym (places_more (names_at k c) c.drives s d next.drive_is) in
    let drives : in_places (drives_at k c) 0 (take s c.drives) ++ drives_for k (slice_index numbers) (own - extra k d) d ≡ in_places (drives_at k c) 0 (take (s + 1) c.drives) =
    ap (λ xs. in_places (drives_at k c) 0 (take s c.drives) ++ xs) next.drives ∙ sym (places_more (drives_at k c) c.drives s d next.drive_is) in
    subst (λ (ns : List (List ℕ)). HasFirstSignals c ns (in_places (drives_at k c) 0 (take (s + 1) c.drives)) new (s + 1)) names
    (subst (λ (ds : List Drive). HasFirstSignals c (in_places (names_at k c) 0 (take s c.drives) ++ names_for k name joiner d) ds new (s + 1)) drives has)

pub one_more_signal : (k : ℕ) (c : Plain) (old new : Parts) (s : ℕ) (name : List ℕ) (d : Drive) (joiner numbers : List ℕ) (own : ℕ)
    → IsNext k c s name d joiner numbers own
    → HasFirstPlaces k c old s → GainsPlace k numbers joiner own old new name d → HasFirstPlaces k c new (s + 1)
one_more_signal k c old new s name input joiner numbers own next so_far gains =
    places_with k c new s name input joiner numbers own next
    (one_more c (in_places (names_at k c) 0 (take s c.drives)) (in_places (drives_at k c) 0 (take s c.drives)) old new s name input next.placed so_far gains)
one_more_signal k c old new s name (latch to init) joiner numbers own next so_far gains =
    places_with k c new s name (latch to init) joiner numbers own next
    (one_more c (in_places (names_at k c) 0 (take s c.drives)) (in_places (drives_at k c) 0 (take s c.drives)) old new s name (latch (slice_index numbers to) init) next.placed so_far gains)
one_more_signal k c old new s name (gate pins cover) joiner numbers own next so_far gains =
    places_with k c new s name (gate pins cover) joiner numbers own next
    (more_gates c (in_places (names_at k c) 0 (take s c.drives)) (names_for k name joiner (gate pins cover)) (in_places (drives_at k c) 0 (take s c.drives)) (drives_for k (slice_index numbers) (own - extra k (gate pins cover)) (gate pins cover)) old new s next.placed so_far gains)

-- ---- numbers that agree

wire_agree : (f g : ℕ → ℕ) (first n m : ℕ) (w : Wire) → ((s : ℕ) → s < n → f s ≡ g s) → IsWireOf n m w
    → wire_number f first w ≡ wire_number g first w
wire_agree f g first n m (Pin s) agree is = agree s is
wire_agree f g first n m (Made i) agree is = refl

piece_agree : (free on : Bool) (f g : ℕ → ℕ) (first n m : ℕ) (piece : Piece) → ((s : ℕ) → s < n → f s ≡ g s) → IsWired free n m piece
    → piece_drive on f first piece ≡ piece_drive on g first piece
piece_agree free on f g first n m NoRow agree is = refl
piece_agree free on f g first n m BareRow agree is = refl
piece_agree free on f g first n m (Alone a) agree is =
    ap (λ x. gate (x ∷ []) (record { on = on; rows = rows_of (Alone a) })) (wire_agree f g first n m a.wire agree is)
piece_agree free on f g first n m (Both a b) agree is =
    ap (λ x. gate (x ∷ wire_number f first b.wire ∷ []) (record { on = on; rows = rows_of (Both a b) })) (wire_agree f g first n m a.wire agree is.0)
    ∙ ap (λ x. gate (wire_number g first a.wire ∷ x ∷ []) (record { on = on; rows = rows_of (Both a b) })) (wire_agree f g first n m b.wire agree is.1)
piece_agree free on f g first n m (Either a b) agree is =
    ap (λ x. gate (x ∷ wire_number f first b.wire ∷ []) (record { on = on; rows = rows_of (Either a b) })) (wire_agree f g first n m a.wire agree is.0)
    ∙ ap (λ x. gate (wire_number g first a.wire ∷ x ∷ []) (record { on = on; rows = rows_of (Either a b) })) (wire_agree f g first n m b.wire agree is.1)

gates_agree : (free on : Bool) (f g : ℕ → ℕ) (first n m : ℕ) (pieces : List Piece) → ((s : ℕ) → s < n → f s ≡ g s) → AreWired free n m pieces
    → gates_of on f first pieces ≡ gates_of on g first pieces
gates_agree free on f g first n m [] agree are = refl
gates_agree free on f g first n m (piece ∷ rest) agree are =
    ap (λ x. x ∷ gates_of on f first rest) (piece_agree free (if is_empty rest then on else true) f g first n m piece agree are.0)
    ∙ ap (λ xs. piece_drive (if is_empty rest then on else true) g first piece ∷ xs) (gates_agree free on f g first n (suc m) rest agree are.1)

pins_agree : (f g : ℕ → ℕ) (n : ℕ) (pins : List ℕ) → ((s : ℕ) → s < n → f s ≡ g s) → All (λ p. p < n) pins → map f pins ≡ map g pins
pins_agree f g n [] agree below = refl
pins_agree f g n (pin ∷ pins) agree below =
    ap (λ x. x ∷ map f pins) (agree pin (All-head (λ p. p < n) pin pins below))
    ∙ ap (λ xs. g pin ∷ xs) (pins_agree f g n pins agree (All-tail (λ p. p < n) pin pins below))

pub drives_agree : (k : ℕ) (f g : ℕ → ℕ) (first n : ℕ) (d : Drive) → ((s : ℕ) → s < n → f s ≡ g s) → ReadsBelow n d
    → drives_for k f first d ≡ drives_for k g first d
drives_agree k f g first n input agree reads = refl
drives_agree k f g first n (latch next init) agree reads = ap (λ x. latch x init ∷ []) (agree next reads)
drives_agree k f g first n (gate pins cover) agree reads =
    let wired : AreWired (is_empty (rows_of_literals pins cover.rows)) n 0 (pieces_of pins cover) = pieces_wired (λ s. s < n) (rows_of_literals pins cover.rows) (rows_wired_by (λ s. s < n) pins cover.rows reads) in
    ap (λ xs. cond (ltb k (length pins)) xs (gate (map f pins) cover ∷ [])) (gates_agree (is_empty (rows_of_literals pins cover.rows)) cover.on f g first n 0 (pieces_of pins cover) agree wired)
    ∙ ap (λ xs. cond (ltb k (length pins)) (gates_of cover.on g first (pieces_of pins cover)) (gate xs cover ∷ [])) (pins_agree f g n pins agree reads)

pub is_next : (k : ℕ) (c : Plain) (s : ℕ) (name : List ℕ) (d : Drive) (joiner numbers : List ℕ) (own : ℕ)
    → AreNumbers k c.drives numbers → joiner ≡ joiner_of tilde c → slice_get c.names s ≡ Some name → slice_get c.drives s ≡ Some d
    → IsPlaced (input_count c.drives) (latch_count c.drives) s d → ReadsBelow (length c.drives) d → own ≡ slice_index numbers s
    → IsNext k c s name d joiner numbers own
is_next k c s name d joiner numbers own are joins name_is drive_is placed reads own_is =
    let within : s < length c.drives = slice_get_within c.drives s d drive_is in
    let (step, itself) = first_next k c.drives s d drive_is in
    let here : slice_index numbers s ≡ number k c.drives s = are.each s within in
    let first : own - extra k d ≡ first_number k c.drives s = omega arith in
    let spelled : name ≡ slice_index_or c.names s [] = sym (get_or_from_slice_get c.names s name [] name_is) in
    record {
      name_is = name_is;
      drive_is = drive_is;
      placed = placed;
      names = ap (λ j. names_for k name j d) joins ∙ ap (λ n. names_for k n (joiner_of tilde c) d) spelled;
      drives = ap (λ n. drives_for k (slice_index numbers) n d) first ∙ drives_agree k (slice_index numbers) (number k c.drives) (first_number k c.drives s) (length c.drives) d are.each reads;
    }

-- The number of a signal leaves room for the new gates before it.
pub own_fits : (k : ℕ) (drives : List Drive) (s : ℕ) (d : Drive) (numbers : List ℕ) (own : ℕ) → AreNumbers k drives numbers
    → slice_get drives s ≡ Some d → own ≡ slice_index numbers s → first_number k drives (length drives) ≤ 100000
    → (extra k d ≤ own) × (own < 100000)
own_fits k drives s d numbers own are is own_is few =
    let within : s < length drives = slice_get_within drives s d is in
    let (step, itself) = first_next k drives s d is in
    let here : slice_index numbers s ≡ number k drives s = are.each s within in
    let bounded : first_number k drives (suc s) ≤ first_number k drives (length drives) = first_within k drives (suc s) (omega arith) in
    (omega arith, omega arith)

outputs_moved : (f g : ℕ → ℕ) (n : ℕ) (outputs : List ℕ) → ((s : ℕ) → s < n → f s ≡ g s) → All (λ s. s < n) outputs → map f outputs ≡ map g outputs
outputs_moved f g n outputs agree below = pins_agree f g n outputs agree below

same_circuit : (a : Plain) (model : List ℕ) (clock : Option Clock) (names : List (List ℕ)) (drives : List Drive) (outputs : List ℕ)
    → a.model ≡ model → a.clock ≡ clock → a.names ≡ names → a.drives ≡ drives → a.outputs ≡ outputs
    → a ≡ record { model = model; clock = clock; names = names; drives = drives; outputs = outputs }
same_circuit a model clock names drives outputs same_model same_clock same_names same_drives same_outputs =
    let made : List ℕ → Option Clock → List (List ℕ) → List Drive → List ℕ → Plain = λ m c n d o. record { model = m; clock = c; names = n; drives = d; outputs = o } in
    ap (λ m. made m a.clock a.names a.drives a.outputs) same_model
    ∙ (ap (λ c. made model c a.names a.drives a.outputs) same_clock
    ∙ (ap (λ n. made model clock n a.drives a.outputs) same_names
    ∙ (ap (λ d. made model clock names d a.outputs) same_drives
    ∙ ap (λ o. made model clock names drives o) same_outputs)))

-- With all signals the parts spell the subject circuit.
pub all_signals : (k : ℕ) (c : Plain) (parts : Parts) (s : ℕ) (numbers : List ℕ) → AreNumbers k c.drives numbers
    → HasFrame c (map (slice_index numbers) c.outputs) parts → HasFirstPlaces k c parts s → length c.drives ≤ s → All (λ o. o < length c.drives) c.outputs
    → circuit_of parts ≡ subject_of k c
unfolding subject_of
all_signals k c parts s numbers are framed so_far all below =
    let whole : take s c.drives ≡ c.drives = take_all s c.drives all in
    let names : (circuit_of parts).names ≡ in_places (names_at k c) 0 c.drives = so_far.names ∙ ap (λ ds. in_places (names_at k c) 0 ds) whole in
    let drives : (circuit_of parts).drives ≡ in_places (drives_at k c) 0 c.drives = so_far.drives ∙ ap (λ ds. in_places (drives_at k c) 0 ds) whole in
    let outputs : parts.outputs.items ≡ map (number k c.drives) c.outputs = framed.outputs ∙ outputs_moved (slice_index numbers) (number k c.drives) (length c.drives) c.outputs are.each below in
    same_circuit (circuit_of parts) c.model c.clock (in_places (names_at k c) 0 c.drives) (in_places (drives_at k c) 0 c.drives) (map (number k c.drives) c.outputs) framed.model framed.clock names drives outputs
