-- The parts of the joined circuit as they grow, and the twins of some pins.
use Rattle.std.proofs.Common.{◌≡◌, ℕ, ◌+◌, ◌<◌, ◌≤◌, List, [], ◌∷◌, ◌++◌, map, take, get_or, length, Some, slice_get, All, sym, ◌∙◌, ap, subst, arith}
use Rattle.std.proofs.lemmas.List.{take_all, take_more, map_more, get_or_read}
use Rattle.std.proofs.lemmas.Option.{get_or_from_slice_get, slice_get_within}
use Rattle.tm_circuit.specs.declared.parts.Parts.{Parts}
use Rattle.tm_circuit.specs.Plain.{Plain, Drive, input, latch, gate, input_count, latch_count}
use Rattle.tm_circuit.specs.Sound.{IsPlaced, ReadsBelow}
use Rattle.tm_circuit.specs.Build.{circuit_of}
use Rattle.tm_parts.specs.Parts.{Gains, HasFrame, HasFirstSignals}
use Rattle.tm_parts.proofs.Growing.{one_more}
use Rattle.tm_twins.specs.Twins.{AreTwins, twin_in}
use Rattle.tm_twins.specs.Joined.{joined_drive, IsJoined}

-- ---- one more signal

-- What is known of the signal that comes next.
pub record IsNext (c : Plain) (s : ℕ) (name : List ℕ) (d : Drive) : Type 0 where
  pub inside : s < length c.drives
  pub named : length c.names ≡ length c.drives
  pub name_is : slice_get c.names s ≡ Some name
  pub drive_is : slice_get c.drives s ≡ Some d
  pub placed : IsPlaced (input_count c.drives) (latch_count c.drives) s d

-- The parts have the first signals of the circuit, so many, with the twin of each signal that they read.
abbrev pub HasFirstJoined : Plain → (ℕ → ℕ) → Parts → ℕ → Type 0
HasFirstJoined c twin parts s = HasFirstSignals c (take s c.names) (map (joined_drive twin) (take s c.drives)) parts s

names_more : (c : Plain) (s : ℕ) (name : List ℕ) (d : Drive) → IsNext c s name d → take s c.names ++ name ∷ [] ≡ take (s + 1) c.names
names_more c s name d next =
    let within : s < length c.names = omega (arith, next.inside, next.named) in
    let one : take (s + 1) c.names ≡ take s c.names ++ get_or c.names s name ∷ [] = take_more c.names s name within in
    let here : get_or c.names s name ≡ name = get_or_from_slice_get c.names s name name next.name_is in
    ap (λ x. take s c.names ++ x ∷ []) (sym here) ∙ sym one

drives_more : (c : Plain) (twin : ℕ → ℕ) (s : ℕ) (name : List ℕ) (d : Drive) → IsNext c s name d
    → map (joined_drive twin) (take s c.drives) ++ joined_drive twin d ∷ [] ≡ map (joined_drive twin) (take (s + 1) c.drives)
drives_more c twin s name d next =
    let one : map (joined_drive twin) (take (s + 1) c.drives) ≡ map (joined_drive twin) (take s c.drives) ++ joined_drive twin (get_or c.drives s d) ∷ [] =
    map_more (joined_drive twin) c.drives s d next.inside in
    let here : get_or c.drives s d ≡ d = get_or_from_slice_get c.drives s d d next.drive_is in
    ap (λ x. map (joined_drive twin) (take s c.drives) ++ joined_drive twin x ∷ []) (sym here) ∙ sym one

-- A drive keeps its kind.
pub placed_joined : (twin : ℕ → ℕ) (inputs latches s : ℕ) (d : Drive) → IsPlaced inputs latches s d → IsPlaced inputs latches s (joined_drive twin d)
placed_joined twin inputs latches s input placed = placed
placed_joined twin inputs latches s (latch next init) placed = placed
placed_joined twin inputs latches s (gate pins cover) placed = placed

pub one_more_signal : (c : Plain) (twin : ℕ → ℕ) (old new : Parts) (s : ℕ) (name : List ℕ) (d made : Drive) → IsNext c s name d
    → HasFirstJoined c twin old s → made ≡ joined_drive twin d → Gains old new name made → HasFirstJoined c twin new (s + 1)
one_more_signal c twin old new s name d made next so_far is gains =
    let more = one_more c (take s c.names) (map (joined_drive twin) (take s c.drives)) old new s name (joined_drive twin d)
    (placed_joined twin (input_count c.drives) (latch_count c.drives) s d next.placed) so_far (subst (λ (e : Drive). Gains old new name e) is gains) in
    subst (λ (ds : List Drive). HasFirstSignals c (take (s + 1) c.names) ds new (s + 1)) (drives_more c twin s name d next)
    (subst (λ (ns : List (List ℕ)). HasFirstSignals c ns (map (joined_drive twin) (take s c.drives) ++ joined_drive twin d ∷ []) new (s + 1)) (names_more c s name d next) more)

-- With all signals the parts are the joined circuit.
pub all_signals : (c : Plain) (twin : ℕ → ℕ) (parts : Parts) (s : ℕ) → AreTwins c.drives twin → HasFrame c c.outputs parts
    → HasFirstJoined c twin parts s → length c.drives ≤ s → length c.names ≡ length c.drives
    → IsJoined c (circuit_of parts)
all_signals c twin parts s twins framed so_far all named =
    let all_names : length c.names ≤ s = omega arith in
    record {
      model = framed.model;
      clock = framed.clock;
      names = so_far.names ∙ take_all s c.names all_names;
      outputs = framed.outputs;
      drives = (twin, twins, so_far.drives ∙ ap (λ ds. map (joined_drive twin) ds) (take_all s c.drives all));
    }

-- ---- the twins of some pins

-- One more pin, by what is read.
pub twins_more : (twins pins joined joined' : List ℕ) (i pin_at pin twin : ℕ) → joined ≡ map (twin_in twins) (take i pins)
    → All (λ p. p < length twins) pins → i < length pins → pin ≡ get_or pins i pin → pin_at ≡ pin
    → twin ≡ get_or twins pin_at twin → joined' ≡ joined ++ twin ∷ [] → joined' ≡ map (twin_in twins) (take (i + 1) pins)
twins_more twins pins joined joined' i pin_at pin twin so_far low within read is read_twin longer =
    let below : get_or pins i pin < length twins = low i pin within in
    let inside : pin_at < length twins = omega arith in
    let here : twin ≡ twin_in twins pin =
    subst (λ k. twin ≡ get_or twins k pin) is (get_or_read twins pin_at twin inside read_twin pin) in
    let one_more : map (twin_in twins) (take (i + 1) pins) ≡ map (twin_in twins) (take i pins) ++ twin_in twins (get_or pins i pin) ∷ [] =
    map_more (twin_in twins) pins i pin within in
    longer ∙ (ap (λ xs. xs ++ twin ∷ []) so_far ∙ (ap (λ x. map (twin_in twins) (take i pins) ++ x ∷ []) (here ∙ ap (twin_in twins) read) ∙ sym one_more))

-- What the drive of a signal reads.
pub reads_at : (drives : List Drive) (s : ℕ) (d : Drive) → All (ReadsBelow (length drives)) drives
    → slice_get drives s ≡ Some d → ReadsBelow (length drives) d
reads_at drives s d all is =
    let here : get_or drives s d ≡ d = get_or_from_slice_get drives s d d is in
    let inside : s < length drives = slice_get_within drives s d is in
    subst (λ (e : Drive). ReadsBelow (length drives) e) here (all s d inside)
