-- One more signal among the parts, or several gates more.
use Rattle.std.proofs.Common.{◌≡◌, ℕ, ◌+◌, ◌<◌, ◌≤◌, ◌⊎◌, inl, inr, List, [], ◌∷◌, ◌++◌, map, refl, sym, ◌∙◌, ap, append_assoc, arith}
use Rattle.std.proofs.lemmas.List.{append-nil, map-append}
use Rattle.tm_circuit.specs.declared.parts.Parts.{Parts}
use Rattle.tm_circuit.specs.declared.parts.GatePart.{GatePart}
use Rattle.tm_circuit.specs.declared.parts.LatchPart.{LatchPart}
use Rattle.tm_circuit.specs.Plain.{Plain, Drive, input, latch, gate, input_count, latch_count}
use Rattle.tm_circuit.specs.Sound.{IsPlaced}
use Rattle.tm_circuit.specs.Build.{circuit_of}
use Rattle.tm_parts.specs.Parts.{HasFrame, HasNoSignals, KeepsFrame, Gains, GainsGates, HasFirstSignals, part_names, part_drives}

-- ---- the frame

pub keeps_frame : (c : Plain) (outputs : List ℕ) (old new : Parts) → HasFrame c outputs old → KeepsFrame old new → HasFrame c outputs new
keeps_frame c outputs old new has keeps = record {
  model = keeps.model ∙ has.model;
  clock = keeps.clock ∙ has.clock;
  outputs = keeps.outputs ∙ has.outputs;
}

-- ---- more elements at the end of one of three lists

at_first : {X : Type 0} (a b c xs : List X) → b ≡ [] → c ≡ [] → ((a ++ xs) ++ b) ++ c ≡ ((a ++ b) ++ c) ++ xs
at_first a b c xs no_b no_c = rw (no_b, no_c) (simp append-nil)

at_second : {X : Type 0} (a b c xs : List X) → c ≡ [] → (a ++ (b ++ xs)) ++ c ≡ ((a ++ b) ++ c) ++ xs
at_second a b c xs no_c = rw no_c (simp (append-nil, append_assoc))

at_third : {X : Type 0} (a b c xs : List X) → (a ++ b) ++ (c ++ xs) ≡ ((a ++ b) ++ c) ++ xs
at_third a b c xs = sym (append_assoc (a ++ b) c xs)

-- ---- the names and drives that parts spell

abbrev names_of : List (List ℕ) → List LatchPart → List GatePart → List (List ℕ)
names_of inputs latches gates = inputs ++ map (λ l. l.name) latches ++ part_names gates

abbrev drives_of : List (List ℕ) → List LatchPart → List GatePart → List Drive
drives_of inputs latches gates = map (λ _. input) inputs ++ map (λ l. latch l.next l.init) latches ++ part_drives gates

-- One more input, where there is no latch and no gate.
names_of-input : (inputs inputs' : List (List ℕ)) (latches latches' : List LatchPart) (gates gates' : List GatePart) (name : List ℕ)
    → inputs' ≡ inputs ++ name ∷ [] → latches' ≡ latches → gates' ≡ gates → latches ≡ [] → gates ≡ []
    → names_of inputs' latches' gates' ≡ names_of inputs latches gates ++ name ∷ []
names_of-input inputs inputs' latches latches' gates gates' name more same_latches same_gates no_latch no_gate =
    rw (more, same_latches, same_gates) (at_first inputs (map (λ l. l.name) latches) (part_names gates) (name ∷ []) (ap (λ xs. map (λ l. l.name) xs) no_latch) (ap (λ xs. part_names xs) no_gate))

drives_of-input : (inputs inputs' : List (List ℕ)) (latches latches' : List LatchPart) (gates gates' : List GatePart) (name : List ℕ)
    → inputs' ≡ inputs ++ name ∷ [] → latches' ≡ latches → gates' ≡ gates → latches ≡ [] → gates ≡ []
    → drives_of inputs' latches' gates' ≡ drives_of inputs latches gates ++ input ∷ []
drives_of-input inputs inputs' latches latches' gates gates' name more same_latches same_gates no_latch no_gate =
    rw (more, same_latches, same_gates, map-append (λ (_ : List ℕ). input) inputs (name ∷ [])) (at_first (map (λ _. input) inputs) (map (λ l. latch l.next l.init) latches) (part_drives gates) (input ∷ []) (ap (λ xs. map (λ l. latch l.next l.init) xs) no_latch) (ap (λ xs. part_drives xs) no_gate))

-- One more latch, where there is no gate.
names_of-latch : (inputs inputs' : List (List ℕ)) (latches latches' : List LatchPart) (gates gates' : List GatePart) (part : LatchPart)
    → inputs' ≡ inputs → latches' ≡ latches ++ part ∷ [] → gates' ≡ gates → gates ≡ []
    → names_of inputs' latches' gates' ≡ names_of inputs latches gates ++ part.name ∷ []
names_of-latch inputs inputs' latches latches' gates gates' part same_inputs more same_gates no_gate =
    rw (same_inputs, more, same_gates, map-append (λ (l : LatchPart). l.name) latches (part ∷ [])) (at_second inputs (map (λ l. l.name) latches) (part_names gates) (part.name ∷ []) (ap (λ xs. part_names xs) no_gate))

drives_of-latch : (inputs inputs' : List (List ℕ)) (latches latches' : List LatchPart) (gates gates' : List GatePart) (part : LatchPart)
    → inputs' ≡ inputs → latches' ≡ latches ++ part ∷ [] → gates' ≡ gates → gates ≡ []
    → drives_of inputs' latches' gates' ≡ drives_of inputs latches gates ++ latch part.next part.init ∷ []
drives_of-latch inputs inputs' latches latches' gates gates' part same_inputs more same_gates no_gate =
    rw (same_inputs, more, same_gates, map-append (λ (l : LatchPart). latch l.next l.init) latches (part ∷ [])) (at_second (map (λ _. input) inputs) (map (λ l. latch l.next l.init) latches) (part_drives gates) (latch part.next part.init ∷ []) (ap (λ xs. part_drives xs) no_gate))

-- More gates.
names_of-gates : (inputs inputs' : List (List ℕ)) (latches latches' : List LatchPart) (gates gates' : List GatePart) (more : List (List ℕ))
    → inputs' ≡ inputs → latches' ≡ latches → part_names gates' ≡ part_names gates ++ more
    → names_of inputs' latches' gates' ≡ names_of inputs latches gates ++ more
names_of-gates inputs inputs' latches latches' gates gates' more same_inputs same_latches gained =
    ap (λ xs. xs ++ map (λ l. l.name) latches' ++ part_names gates') same_inputs
    ∙ (ap (λ xs. inputs ++ map (λ l. l.name) xs ++ part_names gates') same_latches
    ∙ (ap (λ xs. inputs ++ map (λ l. l.name) latches ++ xs) gained
    ∙ at_third inputs (map (λ l. l.name) latches) (part_names gates) more))

drives_of-gates : (inputs inputs' : List (List ℕ)) (latches latches' : List LatchPart) (gates gates' : List GatePart) (more : List Drive)
    → inputs' ≡ inputs → latches' ≡ latches → part_drives gates' ≡ part_drives gates ++ more
    → drives_of inputs' latches' gates' ≡ drives_of inputs latches gates ++ more
drives_of-gates inputs inputs' latches latches' gates gates' more same_inputs same_latches gained =
    ap (λ xs. map (λ _. input) xs ++ map (λ l. latch l.next l.init) latches' ++ part_drives gates') same_inputs
    ∙ (ap (λ xs. map (λ _. input) inputs ++ map (λ l. latch l.next l.init) xs ++ part_drives gates') same_latches
    ∙ (ap (λ xs. map (λ _. input) inputs ++ map (λ l. latch l.next l.init) latches ++ xs) gained
    ∙ at_third (map (λ _. input) inputs) (map (λ l. latch l.next l.init) latches) (part_drives gates) more))

-- ---- signals one after another

pub first_none : (c : Plain) (parts : Parts) → HasNoSignals parts → HasFirstSignals c [] [] parts 0
first_none c parts none = record {
  names = rw (none.inputs, none.latches, none.gates) refl;
  drives = rw (none.inputs, none.latches, none.gates) refl;
  latches = inl none.latches;
  gates = inl none.gates;
}

none_yet : {X : Type 0} (xs : List X) (bound s : ℕ) → (xs ≡ []) ⊎ (bound ≤ s) → s < bound → xs ≡ []
none_yet xs bound s either below = elim either [ inl none ↦ none | inr late ↦ absurd (omega arith) ]

-- Gates in the place of a gate.
pub more_gates : (c : Plain) (names more_names : List (List ℕ)) (drives more_drives : List Drive) (old new : Parts) (s : ℕ)
    → input_count c.drives + latch_count c.drives ≤ s → HasFirstSignals c names drives old s
    → GainsGates old new more_names more_drives → HasFirstSignals c (names ++ more_names) (drives ++ more_drives) new (s + 1)
more_gates c names more_names drives more_drives old new s late so_far gains = record {
  names = names_of-gates old.inputs.items new.inputs.items old.latches.items new.latches.items old.gates.items new.gates.items more_names gains.inputs gains.latches gains.names
      ∙ ap (λ xs. xs ++ more_names) so_far.names;
  drives = drives_of-gates old.inputs.items new.inputs.items old.latches.items new.latches.items old.gates.items new.gates.items more_drives gains.inputs gains.latches gains.drives
      ∙ ap (λ xs. xs ++ more_drives) so_far.drives;
  latches = inr (omega arith);
  gates = inr (omega arith);
}

-- One signal in the place of one of its kind.
pub one_more : (c : Plain) (names : List (List ℕ)) (drives : List Drive) (old new : Parts) (s : ℕ) (name : List ℕ) (d : Drive)
    → IsPlaced (input_count c.drives) (latch_count c.drives) s d → HasFirstSignals c names drives old s
    → Gains old new name d → HasFirstSignals c (names ++ name ∷ []) (drives ++ d ∷ []) new (s + 1)
one_more c names drives old new s name input placed so_far gains =
    let below : s < input_count c.drives = placed in
    let no_latch : old.latches.items ≡ [] = none_yet old.latches.items (input_count c.drives) s so_far.latches below in
    let no_gate : old.gates.items ≡ [] = none_yet old.gates.items (input_count c.drives + latch_count c.drives) s so_far.gates (omega arith) in
    record {
      names = names_of-input old.inputs.items new.inputs.items old.latches.items new.latches.items old.gates.items new.gates.items name gains.0 gains.1 gains.2 no_latch no_gate
          ∙ ap (λ xs. xs ++ name ∷ []) so_far.names;
      drives = drives_of-input old.inputs.items new.inputs.items old.latches.items new.latches.items old.gates.items new.gates.items name gains.0 gains.1 gains.2 no_latch no_gate
          ∙ ap (λ xs. xs ++ input ∷ []) so_far.drives;
      latches = inl (gains.1 ∙ no_latch);
      gates = inl (gains.2 ∙ no_gate);
    }
one_more c names drives old new s name (latch next init) placed so_far gains =
    let part : LatchPart = record { name = name; next = next; init = init } in
    let inside : (input_count c.drives ≤ s) × (s < input_count c.drives + latch_count c.drives) = placed in
    let no_gate : old.gates.items ≡ [] = none_yet old.gates.items (input_count c.drives + latch_count c.drives) s so_far.gates inside.1 in
    record {
      names = names_of-latch old.inputs.items new.inputs.items old.latches.items new.latches.items old.gates.items new.gates.items part gains.0 gains.1 gains.2 no_gate
          ∙ ap (λ xs. xs ++ name ∷ []) so_far.names;
      drives = drives_of-latch old.inputs.items new.inputs.items old.latches.items new.latches.items old.gates.items new.gates.items part gains.0 gains.1 gains.2 no_gate
          ∙ ap (λ xs. xs ++ latch next init ∷ []) so_far.drives;
      latches = inr (omega arith);
      gates = inl (gains.2 ∙ no_gate);
    }
one_more c names drives old new s name (gate pins cover) placed so_far gains =
    more_gates c names (name ∷ []) drives (gate pins cover ∷ []) old new s placed so_far gains
