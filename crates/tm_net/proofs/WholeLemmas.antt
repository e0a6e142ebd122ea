-- The parts that a layout makes are those of the mapped circuit.
use Rattle.std.proofs.Common.{◌≡◌, ℕ, zero, suc, ◌+◌, ◌<◌, ◌≤◌, false, List, [], ◌∷◌, ◌++◌, map, length, Some, slice_get, refl, sym, ◌∙◌, ap, subst, arith, append_assoc, length-append}
use Rattle.std.specs.Prelude.{Contains}
use Rattle.std.specs.List.{AllZip, range_with_len}
use Rattle.std.proofs.lemmas.List.{length-map, map-append}
use Rattle.std.proofs.lemmas.List.FromFn.{length-range_with_len}
use Rattle.std.proofs.lemmas.Option.{get_or_from_slice_get}
use Rattle.tm_circuit.specs.declared.parts.Parts.{Parts}
use Rattle.tm_circuit.specs.declared.parts.LatchPart.{LatchPart}
use Rattle.tm_circuit.specs.declared.parts.GatePart.{GatePart}
use Rattle.tm_circuit.specs.Plain.{Plain, Drive, input, latch, gate, drive, input_count}
use Rattle.tm_circuit.specs.Sound.{IsSound}
use Rattle.tm_circuit.specs.Build.{circuit_of}
use Rattle.tm_circuit.proofs.ListLemmas.{map-agree}
use Rattle.tm_init.specs.Starts.{Bits, AreFirstSteps}
use Rattle.tm_parts.specs.Parts.{part_drive}
use Rattle.tm_unroll.specs.declared.node.Node.{Node}
use Rattle.tm_unroll.specs.Nodes.{node_at}
use Rattle.tm_unroll.specs.Mappings.{Table, root}
use Rattle.tm_unroll.proofs.ReadLemmas.{same_node}
use Rattle.tm_unroll.proofs.ListLemmas.{place-of, some-at}
use Rattle.tm_mapped.specs.Needed.{HasTablePast, IsNeeded, output, of_leaf, further, of_next, MayBeRegister, IsRegister, nodes_of}
use Rattle.tm_mapped.specs.Mapped.{StandsFor, IsRegisterDrive, BySingleRows, IsTableDrive, node_name, clock_for, IsMapped}
use Rattle.tm_mapped.proofs.ListLemmas.{at-left, at-right, at-map}
use Rattle.tm_mapped.proofs.NodeLemmas.{register_stands, root_stands}
use Rattle.tm_mapped.proofs.StandLemmas.{placed, one_place}
use Rattle.tm_mapped.proofs.SameLemmas.{map-twice}
use Rattle.tm_net.specs.declared.layout.Layout.{Layout}
use Rattle.tm_net.specs.Registers.{IsSmallMapping}
use Rattle.tm_net.specs.Layouts.{registers_of, IsLayout, number_in}
use Rattle.tm_net.specs.Making.{behind, first_bit, register_part, IsGatePart}
use Rattle.tm_net.proofs.StandLemmas.{registers_are, number_stands}

-- ---- pairs by places

zip-at : {X Y : Type 0} (R : X → Y → Type 0) (xs : List X) (ys : List Y) (j : ℕ) (x : X) → AllZip R xs ys → slice_get xs j ≡ Some x
    → (y : Y) × (slice_get ys j ≡ Some y) × R x y
zip-at R [] ys j x all at = cc
zip-at R (v ∷ xs) [] j x all at = absurd all
zip-at R (v ∷ xs) (w ∷ ys) zero x all at = let same : v ≡ x = cc in (w, refl, subst (λ u. R u w) same all.0)
zip-at R (v ∷ xs) (w ∷ ys) (suc j) x all at = zip-at R xs ys j x all.1 at

zip-long : {X Y : Type 0} (R : X → Y → Type 0) (xs : List X) (ys : List Y) → AllZip R xs ys → length ys ≡ length xs
zip-long R [] [] all = refl
zip-long R [] (w ∷ ys) all = absurd all
zip-long R (v ∷ xs) [] all = absurd all
zip-long R (v ∷ xs) (w ∷ ys) all = ap suc (zip-long R xs ys all.1)

gate_names : (c : Plain) (layout : Layout) (tables : List Table) (gates : List GatePart) → AllZip (IsGatePart c layout) tables gates
    → map (λ (g : GatePart). g.name) gates ≡ map (node_name c) (map root tables)
gate_names c layout [] [] all = refl
gate_names c layout [] (g ∷ gates) all = absurd all
gate_names c layout (t ∷ tables) [] all = absurd all
gate_names c layout (t ∷ tables) (g ∷ gates) all =
    let here = all.0.name in
    let rest = gate_names c layout tables gates all.1 in
    ap (λ name. name ∷ map (λ (h : GatePart). h.name) gates) here ∙ ap (λ names. node_name c (root t) ∷ names) rest

-- ---- the parts

-- Parts made by a plan.
pub record AreMade (c : Plain) (tables : List Table) (layout : Layout) (starts : Bits) (parts : Parts) : Type 0 where
  pub model : parts.model ≡ c.model
  pub clock : parts.clock ≡ clock_for (length (registers_of c layout)) c.clock
  pub inputs : parts.inputs.items ≡ map (λ s. node_name c (node_at 0 s)) (range_with_len 0 (input_count c.drives))
  pub latches : parts.latches.items ≡ map (register_part c layout starts) (registers_of c layout)
  pub gates : AllZip (IsGatePart c layout) tables parts.gates.items
  pub outputs : parts.outputs.items ≡ map (λ s. number_in layout (node_at 0 s)) c.outputs
  pub first : AreFirstSteps c starts.steps starts
  pub lags : (t : Table) → Contains tables t → t.lag ≤ starts.steps

module _ (c : Plain) (tables : List Table) (layout : Layout) (starts : Bits) (parts : Parts) (sound : IsSound c) (small : IsSmallMapping c tables)
    (is : IsLayout c tables layout) (made : AreMade c tables layout starts parts)
  where
    stands_at : (x : Node) → IsNeeded c tables x → slice_get (nodes_of c (registers_of c layout) tables) (number_in layout x) ≡ Some x
    stands_at x needed = number_stands c tables layout sound small is x needed

    -- ---- lists of drives and names

    inputs_long : length (map (λ (_ : List ℕ). input) parts.inputs.items) ≡ input_count c.drives
    inputs_long =
        let mapped = length-map parts.inputs.items (λ (_ : List ℕ). input) in
        let same = ap (λ (xs : List (List ℕ)). length xs) made.inputs in
        let named = length-map (range_with_len 0 (input_count c.drives)) (λ s. node_name c (node_at 0 s)) in
        let long = length-range_with_len 0 (input_count c.drives) in
        omega (arith, mapped, same, named, long)

    latches_long : length (map (λ (l : LatchPart). latch l.next l.init) parts.latches.items) ≡ length (registers_of c layout)
    latches_long =
        let mapped = length-map parts.latches.items (λ (l : LatchPart). latch l.next l.init) in
        let same = ap (λ (xs : List LatchPart). length xs) made.latches in
        let long = length-map (registers_of c layout) (register_part c layout starts) in
        omega (arith, mapped, same, long)

    gates_long : length (map part_drive parts.gates.items) ≡ length tables
    gates_long = length-map parts.gates.items part_drive ∙ zip-long (IsGatePart c layout) tables parts.gates.items made.gates

    drive_at : (i : ℕ) (d : Drive) → slice_get (circuit_of parts).drives i ≡ Some d → drive (circuit_of parts) i ≡ d
    drive_at i d at = get_or_from_slice_get (circuit_of parts).drives i d (latch i false) at

    input_drive : (i : ℕ) → i < input_count c.drives → drive (circuit_of parts) i ≡ input
    input_drive i low =
        let long = length-map parts.inputs.items (λ (_ : List ℕ). input) in
        let all = inputs_long in
        let (name, at) = some-at parts.inputs.items i (omega (arith, low, long, all)) in
        drive_at i input
        (at-left (map (λ _. input) parts.inputs.items ++ map (λ l. latch l.next l.init) parts.latches.items) (map part_drive parts.gates.items) i input
        (at-left (map (λ _. input) parts.inputs.items) (map (λ l. latch l.next l.init) parts.latches.items) i input
        (at-map (λ (_ : List ℕ). input) parts.inputs.items i name at)))

    latch_drive : (j : ℕ) (x : Node) → slice_get (registers_of c layout) j ≡ Some x
        → drive (circuit_of parts) (input_count c.drives + j) ≡ latch (number_in layout (behind (drive c x.signal) x)) (first_bit (drive c x.signal) starts x)
    latch_drive j x at =
        let part : slice_get parts.latches.items j ≡ Some (register_part c layout starts x) =
        ap (λ (ls : List LatchPart). slice_get ls j) made.latches ∙ at-map (register_part c layout starts) (registers_of c layout) j x at in
        let d : Drive = latch (number_in layout (behind (drive c x.signal) x)) (first_bit (drive c x.signal) starts x) in
        let there : slice_get (map (λ (l : LatchPart). latch l.next l.init) parts.latches.items) j ≡ Some d =
        at-map (λ (l : LatchPart). latch l.next l.init) parts.latches.items j (register_part c layout starts x) part in
        drive_at (input_count c.drives + j) d
        (at-left (map (λ _. input) parts.inputs.items ++ map (λ l. latch l.next l.init) parts.latches.items) (map part_drive parts.gates.items) (input_count c.drives + j) d
        (subst (λ n. slice_get (map (λ _. input) parts.inputs.items ++ map (λ l. latch l.next l.init) parts.latches.items) (n + j) ≡ Some d) inputs_long
        (at-right (map (λ _. input) parts.inputs.items) (map (λ l. latch l.next l.init) parts.latches.items) j d there)))

    gate_drive : (j : ℕ) (g : GatePart) → slice_get parts.gates.items j ≡ Some g
        → drive (circuit_of parts) (input_count c.drives + (length (registers_of c layout) + j)) ≡ part_drive g
    gate_drive j g at =
        let there = at-map part_drive parts.gates.items j g at in
        let before = length-append (map (λ (_ : List ℕ). input) parts.inputs.items) (map (λ (l : LatchPart). latch l.next l.init) parts.latches.items) in
        let ins = inputs_long in
        let regs = latches_long in
        let place : length (map (λ (_ : List ℕ). input) parts.inputs.items ++ map (λ (l : LatchPart). latch l.next l.init) parts.latches.items) + j ≡ input_count c.drives + (length (registers_of c layout) + j) =
        omega (arith, before, ins, regs) in
        drive_at (input_count c.drives + (length (registers_of c layout) + j)) (part_drive g)
        (subst (λ n. slice_get (circuit_of parts).drives n ≡ Some (part_drive g)) place
        (at-right (map (λ _. input) parts.inputs.items ++ map (λ l. latch l.next l.init) parts.latches.items) (map part_drive parts.gates.items) j (part_drive g) there))

    all_long : length (circuit_of parts).drives ≡ length (nodes_of c (registers_of c layout) tables)
    all_long =
        let first = length-append (map (λ (_ : List ℕ). input) parts.inputs.items ++ map (λ (l : LatchPart). latch l.next l.init) parts.latches.items) (map part_drive parts.gates.items) in
        let second = length-append (map (λ (_ : List ℕ). input) parts.inputs.items) (map (λ (l : LatchPart). latch l.next l.init) parts.latches.items) in
        let ins = inputs_long in
        let regs = latches_long in
        let roots = gates_long in
        let nodes = length-append (map (λ s. node_at 0 s) (range_with_len 0 (input_count c.drives))) (registers_of c layout ++ map root tables) in
        let later = length-append (registers_of c layout) (map root tables) in
        let in_nodes = length-map (range_with_len 0 (input_count c.drives)) (λ s. node_at 0 s) in
        let count = length-range_with_len 0 (input_count c.drives) in
        let root_nodes = length-map tables root in
        omega (arith, first, second, ins, regs, roots, nodes, later, in_nodes, count, root_nodes)

    all_names : (circuit_of parts).names ≡ map (node_name c) (nodes_of c (registers_of c layout) tables)
    all_names =
        let in_nodes : List Node = map (λ s. node_at 0 s) (range_with_len 0 (input_count c.drives)) in
        let ins : parts.inputs.items ≡ map (node_name c) in_nodes = made.inputs ∙ sym (map-twice (node_name c) (λ s. node_at 0 s) (range_with_len 0 (input_count c.drives))) in
        let regs : map (λ (l : LatchPart). l.name) parts.latches.items ≡ map (node_name c) (registers_of c layout) =
        ap (λ (ls : List LatchPart). map (λ (l : LatchPart). l.name) ls) made.latches ∙ map-twice (λ (l : LatchPart). l.name) (register_part c layout starts) (registers_of c layout) in
        let roots : map (λ (g : GatePart). g.name) parts.gates.items ≡ map (node_name c) (map root tables) = gate_names c layout tables parts.gates.items made.gates in
        let whole : map (node_name c) (in_nodes ++ (registers_of c layout ++ map root tables)) ≡ map (node_name c) in_nodes ++ (map (node_name c) (registers_of c layout) ++ map (node_name c) (map root tables)) =
        map-append (node_name c) in_nodes (registers_of c layout ++ map root tables) ∙ ap (λ ns. map (node_name c) in_nodes ++ ns) (map-append (node_name c) (registers_of c layout) (map root tables)) in
        ap (λ ns. ns ++ map (λ (l : LatchPart). l.name) parts.latches.items ++ map (λ (g : GatePart). g.name) parts.gates.items) ins
        ∙ (ap (λ ns. map (node_name c) in_nodes ++ ns ++ map (λ (g : GatePart). g.name) parts.gates.items) regs
        ∙ (ap (λ ns. map (node_name c) in_nodes ++ map (node_name c) (registers_of c layout) ++ ns) roots
        ∙ (append_assoc (map (node_name c) in_nodes) (map (node_name c) (registers_of c layout)) (map (node_name c) (map root tables)) ∙ sym whole)))

    -- ---- registers

    early : (s advance : ℕ) → HasTablePast tables s advance → advance < starts.steps
    early s advance (t, stands, gate_is, less) = let lag = made.lags t stands in omega (arith, lag, less)

    register_drive : (x : Node) → IsRegister c tables x
        → IsRegisterDrive c (nodes_of c (registers_of c layout) tables) (drive c x.signal) x (latch (number_in layout (behind (drive c x.signal) x)) (first_bit (drive c x.signal) starts x))
    register_drive x register = by_drive (drive c x.signal) refl
      where
        inside : x.signal < length c.drives
        inside = (placed c small.k small.d tables sound small.lawful x register.needed).signal

        by_drive : (d : Drive) → drive c x.signal ≡ d
            → IsRegisterDrive c (nodes_of c (registers_of c layout) tables) d x (latch (number_in layout (behind d x)) (first_bit d starts x))
        by_drive input is_d = subst (λ (d : Drive). MayBeRegister d tables x) is_d register.kind
        by_drive (latch next init) is_d =
            let now : x.advance ≡ 0 = subst (λ (d : Drive). MayBeRegister d tables x) is_d register.kind in
            let needed : IsNeeded c tables (node_at 0 x.signal) = subst (IsNeeded c tables) (same_node x (node_at 0 x.signal) refl now) register.needed in
            (number_in layout (node_at 0 next), stands_at (node_at 0 next) (of_next x.signal next init is_d needed), refl)
        by_drive (gate pins cover) is_d =
            let past : HasTablePast tables x.signal x.advance = subst (λ (d : Drive). MayBeRegister d tables x) is_d register.kind in
            let needed : IsNeeded c tables (node_at x.advance x.signal) = subst (IsNeeded c tables) (same_node x (node_at x.advance x.signal) refl refl) register.needed in
            let step = early x.signal x.advance past in (
              number_in layout (node_at (suc x.advance) x.signal),
              (
                first_bit (gate pins cover) starts x,
                stands_at (node_at (suc x.advance) x.signal) (further x.signal x.advance past needed),
                (λ t obeys. sym (made.first.first.each t obeys x.signal x.advance inside step)),
                refl,
              ),
            )

    latch_stands : (i : ℕ) (x : Node) → Contains (registers_of c layout) x → StandsFor (nodes_of c (registers_of c layout) tables) i x
        → IsRegisterDrive c (nodes_of c (registers_of c layout) tables) (drive c x.signal) x (drive (circuit_of parts) i)
    latch_stands i x stands at =
        let are = registers_are c tables layout sound small is in
        let (j, here) = place-of (registers_of c layout) x stands in
        let same : i ≡ input_count c.drives + j =
        one_place c small.k small.d tables sound small.lawful (registers_of c layout) are i (input_count c.drives + j) x at (register_stands c (registers_of c layout) tables j x here) in
        let driven : drive (circuit_of parts) i ≡ latch (number_in layout (behind (drive c x.signal) x)) (first_bit (drive c x.signal) starts x) =
        ap (drive (circuit_of parts)) same ∙ latch_drive j x here in
        subst (λ (d : Drive). IsRegisterDrive c (nodes_of c (registers_of c layout) tables) (drive c x.signal) x d) (sym driven) (register_drive x ((are.each x).0 stands))

    -- ---- tables

    numbered : (xs : List Node) → ((x : Node) → Contains xs x → IsNeeded c tables x)
        → map (λ p. slice_get (nodes_of c (registers_of c layout) tables) p) (map (number_in layout) xs) ≡ map (λ x. Some x) xs
    numbered xs needed =
        map-twice (λ p. slice_get (nodes_of c (registers_of c layout) tables) p) (number_in layout) xs
        ∙ map-agree (λ (x : Node). slice_get (nodes_of c (registers_of c layout) tables) (number_in layout x)) (λ (x : Node). Some x) xs (λ x stands. stands_at x (needed x stands))

    gate_stands : (i : ℕ) (t : Table) → Contains tables t → StandsFor (nodes_of c (registers_of c layout) tables) i (root t)
        → IsTableDrive BySingleRows c (nodes_of c (registers_of c layout) tables) t (drive (circuit_of parts) i)
    gate_stands i t stands at =
        let are = registers_are c tables layout sound small is in
        let (j, here) = place-of tables t stands in
        let same : i ≡ input_count c.drives + (length (registers_of c layout) + j) =
        one_place c small.k small.d tables sound small.lawful (registers_of c layout) are i (input_count c.drives + (length (registers_of c layout) + j)) (root t) at
        (root_stands c (registers_of c layout) tables j t here) in
        let (g, there, part) = zip-at (IsGatePart c layout) tables parts.gates.items j t made.gates here in
        record {
          pins = g.pins.items;
          cover = g.cover;
          words = part.words;
          is = ap (drive (circuit_of parts)) same ∙ gate_drive j g there;
          leaves = ap (λ ps. map (λ p. slice_get (nodes_of c (registers_of c layout) tables) p) ps) part.pins ∙ numbered t.leaves (λ x leaf. of_leaf t x stands leaf);
          function = part.function;
          covers = part.cover;
        }

    out_numbers : map (λ o. slice_get (nodes_of c (registers_of c layout) tables) o) (circuit_of parts).outputs ≡ map (λ s. Some (node_at 0 s)) c.outputs
    out_numbers =
        ap (λ os. map (λ o. slice_get (nodes_of c (registers_of c layout) tables) o) os) made.outputs
        ∙ (map-twice (λ o. slice_get (nodes_of c (registers_of c layout) tables) o) (λ s. number_in layout (node_at 0 s)) c.outputs
        ∙ map-agree (λ s. slice_get (nodes_of c (registers_of c layout) tables) (number_in layout (node_at 0 s))) (λ s. Some (node_at 0 s)) c.outputs
        (λ s stands. stands_at (node_at 0 s) (output s stands)))

    pub parts_mapped : IsMapped c tables (circuit_of parts)
    parts_mapped = record {
      registers = registers_of c layout;
      are = registers_are c tables layout sound small is;
      model = made.model;
      clock = made.clock;
      names = all_names;
      signals = all_long;
      inputs = input_drive;
      latches = latch_stands;
      gates = gate_stands;
      outputs = out_numbers;
    }
