-- The circuit of the parts is the one that the statements spell.
use Rattle.std.proofs.Common.{◌≡◌, ℕ, Bool, List, [], ◌∷◌, ◌++◌, Option, Some, map, slice_get, position, bytes_eq, refl, sym, ◌∙◌, ap}
use Rattle.std.specs.Prelude.{option_map}
use Rattle.std.specs.List.{list_any, flat_map}
use Rattle.std.proofs.lemmas.List.{map-append}
use Rattle.tm_circuit.specs.declared.parts.Parts.{Parts}
use Rattle.tm_circuit.specs.declared.parts.Clock.{Clock}
use Rattle.tm_circuit.specs.declared.parts.Edge.{Edge}
use Rattle.tm_circuit.specs.declared.parts.LatchPart.{LatchPart}
use Rattle.tm_circuit.specs.declared.parts.GatePart.{GatePart}
use Rattle.tm_circuit.specs.Plain.{Plain, Drive}
use Rattle.tm_circuit.specs.Plain as plain
use Rattle.tm_circuit.specs.Build.{circuit_of}
use Rattle.blif_unit.specs.declared.unit.Stated.{Stated}
use Rattle.blif_unit.specs.Unit.{Model, Telling, told_of, telling_of, inputs_told, outputs_told, latch_told, gate_told, over}
use Rattle.blif_circuit.specs.Circuit as told
use Rattle.blif_circuit.specs.Circuit.{Reading, reading, latches_read, gates_read, readings_of, names_of, inputs_of, clock_name, clock_in, edges_of, declared_told, IsSpelled}
use Rattle.blif_circuit.specs.Signals.{latch_name, gate_name, latch_reading, gate_reading}
use Rattle.blif_circuit.proofs.SignalFaults.{any-over}

pub map-map : {A B C : Type 0} (f : B → C) (g : A → B) (xs : List A) → map f (map g xs) ≡ map (λ x. f (g x)) xs
map-map f g [] = refl
map-map f g (x ∷ xs) = ap (λ ys. f (g x) ∷ ys) (map-map f g xs)

-- the clock, part by part
pub clock_parts : (body : List Stated) (n copy : List ℕ) (edge : Option Edge) (declared : Bool) (place : Option ℕ) → clock_name (map telling_of body) ≡ Some n → copy ≡ n
    → edge ≡ slice_get (edges_of (map telling_of body)) 0 → declared ≡ list_any (λ (s : Stated). list_any (bytes_eq n) (declared_told (told_of s.what))) body
    → place ≡ position (bytes_eq n) (over inputs_told (map telling_of body))
    → ◌≡◌ {A = Option Clock} (Some (record { name = copy; edge = edge; declared = declared; place = place })) (clock_in (map telling_of body))
clock_parts body n copy edge declared place en ec ee ed ep =
    let b : List Telling = map telling_of body in
    let make : List ℕ → Option Edge → Bool → Option ℕ → Option Clock = λ x e d p. Some (record { name = x; edge = e; declared = d; place = p }) in
    let e : Option Edge = slice_get (edges_of b) 0 in
    let d : Bool = list_any (bytes_eq n) (over declared_told b) in
    let whole : clock_in b ≡ make n e d (position (bytes_eq n) (over inputs_told b))
    = ap (λ (o : Option (List ℕ)). option_map (λ (x : List ℕ). let c : Clock = record { name = x; edge = e; declared = list_any (bytes_eq x) (over declared_told b); place = position (bytes_eq x) (over inputs_told b) } in c) o) en in
    ap (λ x. make x edge declared place) ec ∙ ap (λ x. make n x declared place) ee ∙ ap (λ x. make n e x place) (ed ∙ any-over (bytes_eq n) declared_told body) ∙ ap (make n e d) ep ∙ sym whole

drives_read : (names : List (List ℕ)) (i : List (List ℕ)) (l : List LatchPart) (g : List GatePart)
    → map (reading names) (map (λ _. plain.input) i ++ map (λ p. plain.latch p.next p.init) l ++ map (λ p. plain.gate p.pins.items p.cover) g) ≡ map (λ _. told.input) i ++ map (latch_reading names) l ++ map (gate_reading names) g
drives_read names i l g =
    let di : List Drive = map (λ _. plain.input) i in
    let dl : List Drive = map (λ p. plain.latch p.next p.init) l in
    let dg : List Drive = map (λ p. plain.gate p.pins.items p.cover) g in
    let ei : map (reading names) di ≡ map (λ _. told.input) i = map-map (reading names) (λ _. plain.input) i in
    let el : map (reading names) dl ≡ map (latch_reading names) l = map-map (reading names) (λ (p : LatchPart). plain.latch p.next p.init) l in
    let eg : map (reading names) dg ≡ map (gate_reading names) g = map-map (reading names) (λ (p : GatePart). plain.gate p.pins.items p.cover) g in
    map-append (reading names) (di ++ dl) dg ∙ ap (λ y. y ++ map (reading names) dg) (map-append (reading names) di dl)
    ∙ ap (λ y. (y ++ map (reading names) dl) ++ map (reading names) dg) ei ∙ ap (λ y. (map (λ _. told.input) i ++ y) ++ map (reading names) dg) el
    ∙ ap (λ y. (map (λ _. told.input) i ++ map (latch_reading names) l) ++ y) eg

pub spelled : (m : Model) (p : Parts) (signals : List (List ℕ)) → p.model ≡ m.name → p.clock ≡ clock_in m.body → p.inputs.items ≡ inputs_of m.body
    → map latch_name p.latches.items ≡ over latch_told m.body → map (latch_reading signals) p.latches.items ≡ flat_map (λ t. latches_read t.what) m.body
    → map gate_name p.gates.items ≡ over gate_told m.body → map (gate_reading signals) p.gates.items ≡ flat_map (λ t. gates_read t.what) m.body
    → map (slice_get signals) p.outputs.items ≡ map Some (over outputs_told m.body) → signals ≡ names_of m.body → IsSpelled m (circuit_of p)
spelled m p signals em ec ei ln ld gn gd eo es =
    let c : Plain = circuit_of p in
    let i = inputs_of m.body in
    let l : List Reading = flat_map (λ t. latches_read t.what) m.body in
    let names : c.names ≡ names_of m.body
    = ap (λ x. (x ++ map latch_name p.latches.items) ++ map gate_name p.gates.items) ei ∙ ap (λ x. (i ++ x) ++ map gate_name p.gates.items) ln ∙ ap (λ x. (i ++ over latch_told m.body) ++ x) gn in
    let same : c.names ≡ signals = names ∙ sym es in
    record {
      model = em;
      clock = ec;
      names = names;
      drives = ap (λ ns. map (reading ns) c.drives) same ∙ drives_read signals p.inputs.items p.latches.items p.gates.items
          ∙ ap (λ x. (map (λ _. told.input) x ++ map (latch_reading signals) p.latches.items) ++ map (gate_reading signals) p.gates.items) ei
          ∙ ap (λ x. (map (λ _. told.input) i ++ x) ++ map (gate_reading signals) p.gates.items) ld
          ∙ ap (λ x. (map (λ _. told.input) i ++ l) ++ x) gd;
      outputs = ap (λ ns. map (slice_get ns) c.outputs) same ∙ eo;
    }
