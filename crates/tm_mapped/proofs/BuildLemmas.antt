-- A mapped circuit is refused for no reason but want of memory.
use Rattle.std.proofs.Common.{◌≡◌, ◌≢◌, ℕ, zero, suc, ◌+◌, ◌*◌, ◌^◌, ◌<◌, ◌≤◌, false, List, [], ◌∷◌, map, length, get_or, Option, Some, slice_get, refl, sym, ◌∙◌, ap, subst, arith}
use Rattle.std.specs.Prelude.{All, Contains, IfSome}
use Rattle.std.proofs.lemmas.List.{length-map, get_or_default}
use Rattle.std.proofs.lemmas.List.Elements.{All-append, All-map, All-weaker, Contains-get_or}
use Rattle.tm_bits.specs.Rows.{Rows, HasWidth}
use Rattle.tm_bits.proofs.Minterms.{minterms_width}
use Rattle.tm_circuit.specs.declared.parts.Clock.{Clock}
use Rattle.tm_circuit.specs.declared.circuit.CircuitFault.TheVariants.{TooMany, Range, BadName, RepeatedName, RepeatedOutput, Loop, NoMemory}
use Rattle.tm_circuit.specs.Plain.{Plain, Drive, latch, drive, input_count, latch_count}
use Rattle.tm_circuit.specs.Sound.{IsSound, IsName, IsClockName, IsClockOf, ReadsBelow, FitsPins, IsInRange, IsWellNamed, HasDistinctOutputs, clock_name}
use Rattle.tm_circuit.proofs.ListLemmas.{contains-first, contains-rest, contains-unmap}
use Rattle.tm_parts.specs.Fits.{FitsMapping}
use Rattle.tm_parts.specs.Names.{HasNamesWithin}
use Rattle.tm_parts.specs.Parts.{IsRefusedForMemory}
use Rattle.tm_unroll.specs.declared.node.Node.{Node}
use Rattle.tm_unroll.specs.Nodes.{node_at}
use Rattle.tm_unroll.specs.Mappings.{Table, IsLawful}
use Rattle.tm_unroll.proofs.ReadLemmas.{same_node}
use Rattle.tm_unroll.proofs.ListLemmas.{AreApart, apart_from_pairs, few_below, at-within, place-of}
use Rattle.tm_mapped.specs.Needed.{nodes_of}
use Rattle.tm_mapped.specs.Mapped.{BySingleRows, IsTableDrive, node_name, clock_for, IsMapped}
use Rattle.tm_mapped.proofs.ListLemmas.{item-at}
use Rattle.tm_mapped.proofs.StandLemmas.{distinct_nodes}
use Rattle.tm_mapped.proofs.DriveLemmas.{IsDriven, as_input, as_kept, as_moved, as_table, as_none, driven_as}
use Rattle.tm_mapped.proofs.RunLemmas.{same_long}
use Rattle.tm_mapped.proofs.SameLemmas.{map-twice}
use Rattle.tm_mapped.proofs.CircleLemmas.{no_circle}
use Rattle.tm_mapped.proofs.CountLemmas.{inputs_counted, latches_counted}
use Rattle.tm_mapped.proofs.NameLemmas.{kept_clock}
use Rattle.tm_mapped.proofs.DistinctLemmas.{IsNear, node_near, distinctly_named}
use Rattle.tm_mapped.proofs.FitLemmas.{IsShortName, fine_name, clock_named, clock_ranged, clock_short}

-- ---- few signals

-- A number for a node, each its own up to an advance of 8.
number_of : Node → ℕ
number_of x = x.signal * 9 + x.advance

number_apart : (xs : List Node) → AreApart xs → ((x : Node) → Contains xs x → x.advance ≤ 8) → AreApart (map number_of xs)
unfolding number_of
number_apart [] apart low = tt
number_apart (x ∷ xs) apart low = (
  λ stands.
      let (y, among, same) = contains-unmap number_of xs (number_of x) stands in
      let low_x = low x (contains-first x xs) in
      let low_y = low y (contains-rest x xs y among) in
      let e = same_node y x (same_signal y.signal x.signal y.advance x.advance low_y low_x same) (same_advance y.signal x.signal y.advance x.advance low_y low_x same) in
      apart.0 (subst (λ (n : Node). Contains xs n) e among),
  number_apart xs apart.1 (λ y among. low y (contains-rest x xs y among)),
)
  where
    same_signal : (s t a b : ℕ) → a ≤ 8 → b ≤ 8 → s * 9 + a ≡ t * 9 + b → s ≡ t
    same_signal s t a b low_a low_b same = omega arith

    same_advance : (s t a b : ℕ) → a ≤ 8 → b ≤ 8 → s * 9 + a ≡ t * 9 + b → a ≡ b
    same_advance s t a b low_a low_b same = omega arith

module _ (c : Plain) (k d : ℕ) (tables : List Table) (sound : IsSound c) (fits : FitsMapping c) (narrow : k ≤ 8) (near : d ≤ 8) (lawful : IsLawful c k d tables)
    (mapped : Plain) (by : IsMapped c tables mapped)
  where
    near_in : (x : Node) → Contains (nodes_of c by.registers tables) x → IsNear c d x
    near_in x stands =
        let (i, at) = place-of (nodes_of c by.registers tables) x stands in
        node_near c k d tables sound lawful by.registers by.are i x at

    pub is_few : length mapped.drives ≤ 900000
    unfolding number_of
    is_few =
        let all : List Node = nodes_of c by.registers tables in
        let apart = apart_from_pairs (λ (x : Node) (y : Node). x ≢ y) all (λ x other. other refl) (distinct_nodes c k d tables sound lawful by.registers by.are) in
        let numbers = number_apart all apart (λ x stands. let low = (near_in x stands).advance in omega (arith, low, near)) in
        let few = few_below (map number_of all) 900000 numbers (λ n stands.
        let (x, among, is) = contains-unmap number_of all n stands in
        let signal = (near_in x among).signal in
        let low = (near_in x among).advance in
        let most = fits.few in
        omega (arith, signal, low, most, near, is)) in
        let long = length-map all number_of in
        let same = by.signals in
        omega (arith, few, long, same)

    -- ---- range

    at_signal : (p : ℕ) (x : Node) → slice_get (nodes_of c by.registers tables) p ≡ Some x → p < length mapped.drives
    at_signal p x at =
        let within = at-within (nodes_of c by.registers tables) p x at in
        let same = by.signals in
        omega (arith, within, same)

    table_fits : (t : Table) (e : Drive) → Contains tables t → IsTableDrive BySingleRows c (nodes_of c by.registers tables) t e
        → ReadsBelow (length mapped.drives) e × FitsPins e
    table_fits t e stands driven =
        let long = same_long (nodes_of c by.registers tables) driven.pins t.leaves driven.leaves in
        let few = (lawful.each t stands).leaves.few in
        let reads : All (λ p. p < length mapped.drives) driven.pins = λ i o within.
        let (x, at, among) = item-at (nodes_of c by.registers tables) driven.pins t.leaves driven.leaves (get_or driven.pins i o) (Contains-get_or driven.pins i o within) in
        at_signal (get_or driven.pins i o) x at in
        let width : HasWidth driven.cover (length driven.pins) = subst (λ n. HasWidth driven.cover n) (sym long) (subst (λ (made : Rows). HasWidth made (length t.leaves)) (sym driven.covers) (minterms_width (length t.leaves) driven.words (2 ^ length t.leaves))) in
        let pins : length driven.pins ≤ 255 = omega (arith, long, few, narrow) in
        subst (λ f. ReadsBelow (length mapped.drives) f × FitsPins f) (sym driven.is) (reads, (pins, width))

    drive_fits : (i : ℕ) → i < length mapped.drives → ReadsBelow (length mapped.drives) (drive mapped i) × FitsPins (drive mapped i)
    drive_fits i within = by_kind (driven_as BySingleRows c tables mapped by i)
      where
        by_kind : IsDriven BySingleRows c by.registers tables mapped i → ReadsBelow (length mapped.drives) (drive mapped i) × FitsPins (drive mapped i)
        by_kind (as_input low at is) = subst (λ f. ReadsBelow (length mapped.drives) f × FitsPins f) (sym is) (tt, tt)
        by_kind (as_kept x at kept) = subst (λ f. ReadsBelow (length mapped.drives) f × FitsPins f) (sym kept.is) (at_signal kept.place (node_at 0 kept.next) kept.stands, tt)
        by_kind (as_moved x at moved) =
            subst (λ f. ReadsBelow (length mapped.drives) f × FitsPins f) (sym moved.is) (at_signal moved.place (node_at (suc x.advance) x.signal) moved.stands, tt)
        by_kind (as_table t stands at driven) = table_fits t (drive mapped i) stands driven
        by_kind (as_none none is) = subst (λ f. ReadsBelow (length mapped.drives) f × FitsPins f) (sym is) (within, tt)

    all_fit : (P : Drive → Type 0) → ((i : ℕ) → i < length mapped.drives → P (drive mapped i)) → All P mapped.drives
    all_fit P each i o within = subst P (get_or_default mapped.drives i (latch i false) o within) (each i within)

    ends : List Node
    ends = map (λ s. node_at 0 s) c.outputs

    out_items : map (λ o. slice_get (nodes_of c by.registers tables) o) mapped.outputs ≡ map (λ x. Some x) ends
    unfolding ends
    out_items = by.outputs ∙ sym (map-twice (λ (x : Node). Some x) (λ s. node_at 0 s) c.outputs)

    pub in_range : IsInRange mapped
    in_range = record {
      reads = all_fit (ReadsBelow (length mapped.drives)) (λ i within. (drive_fits i within).0);
      pins = all_fit FitsPins (λ i within. (drive_fits i within).1);
      outputs = λ i o within.
          let (x, at, among) = item-at (nodes_of c by.registers tables) mapped.outputs ends out_items (get_or mapped.outputs i o) (Contains-get_or mapped.outputs i o within) in
          at_signal (get_or mapped.outputs i o) x at;
      clock = subst (λ (k : Option Clock). IfSome k (IsClockOf (input_count mapped.drives) (latch_count mapped.drives))) (sym by.clock)
          (subst (λ n. IfSome (clock_for (length by.registers) c.clock) (IsClockOf n (latch_count mapped.drives))) (sym (inputs_counted BySingleRows c tables mapped by))
          (subst (λ n. IfSome (clock_for (length by.registers) c.clock) (IsClockOf (input_count c.drives) n)) (sym (latches_counted BySingleRows c tables mapped by))
          (clock_ranged (length by.registers) (input_count c.drives) (latch_count c.drives) c.clock sound.range.clock)));
    }

    -- ---- names and outputs

    fine_names : All IsShortName mapped.names
    fine_names =
        subst (λ (ns : List (List ℕ)). All IsShortName ns) (sym by.names) (All-map IsShortName (node_name c) (nodes_of c by.registers tables) (λ i o within.
        let near_x = near_in (get_or (nodes_of c by.registers tables) i o) (Contains-get_or (nodes_of c by.registers tables) i o within) in
        let low = near_x.advance in
        fine_name c sound fits (get_or (nodes_of c by.registers tables) i o) near_x.signal (omega (arith, low, near))))

    pub well_named : IsWellNamed mapped
    well_named = record {
      model = subst IsName (sym by.model) sound.names.model;
      signals = All-weaker IsShortName IsName (λ n f. f.lawful) mapped.names fine_names;
      clock = subst (λ (k : Option Clock). IfSome k IsClockName) (sym by.clock) (clock_named (length by.registers) c.clock sound.names.clock);
    }

    pub short_names : HasNamesWithin 774 mapped
    short_names =
        All-append (λ name. length name ≤ 774) mapped.names (clock_name mapped.clock)
        (All-weaker IsShortName (λ name. length name ≤ 774) (λ n f. f.short) mapped.names fine_names)
        (clock_short c.clock mapped.clock fits.clock (λ made is. kept_clock (length by.registers) c.clock made (sym by.clock ∙ is)))

    pub distinct_outputs : HasDistinctOutputs mapped
    distinct_outputs i j o less within same =
        let long : length mapped.outputs ≡ length c.outputs = sym (length-map mapped.outputs (λ p. slice_get (nodes_of c by.registers tables) p)) ∙ (ap length by.outputs ∙ length-map c.outputs (λ s. Some (node_at 0 s))) in
        let at_i = out_at mapped.outputs c.outputs by.outputs i o (omega (arith, less, within)) in
        let at_j = out_at mapped.outputs c.outputs by.outputs j o within in
        let both : Some (node_at 0 (get_or c.outputs i 0)) ≡ Some (node_at 0 (get_or c.outputs j 0)) = sym at_i ∙ (ap (slice_get (nodes_of c by.registers tables)) same ∙ at_j) in
        let e : node_at 0 (get_or c.outputs i 0) ≡ node_at 0 (get_or c.outputs j 0) = cc in
        sound.outputs i j 0 less (omega (arith, within, long)) (ap (λ (n : Node). n.signal) e)
      where
        out_at : (outs was : List ℕ) → map (λ p. slice_get (nodes_of c by.registers tables) p) outs ≡ map (λ s. Some (node_at 0 s)) was → (i o : ℕ) → i < length outs
            → slice_get (nodes_of c by.registers tables) (get_or outs i o) ≡ Some (node_at 0 (get_or was i 0))
        out_at [] was all i o low = absurd (omega arith)
        out_at (p ∷ outs) [] all i o low = cc
        out_at (p ∷ outs) (s ∷ was) all zero o low = cc
        out_at (p ∷ outs) (s ∷ was) all (suc i) o low =
            let rest : map (λ p. slice_get (nodes_of c by.registers tables) p) outs ≡ map (λ s. Some (node_at 0 s)) was = cc in
            out_at outs was rest i o (omega arith)

    pub refused_for_memory : IsRefusedForMemory mapped
    refused_for_memory TooMany built = let few = is_few in let many : 900000 < length mapped.drives = built in absurd (omega (arith, few, many))
    refused_for_memory Range built = absurd (built.1 in_range)
    refused_for_memory BadName built = absurd (built.2 well_named)
    refused_for_memory RepeatedName built = absurd (built.3 (distinctly_named BySingleRows c k d tables mapped sound lawful near by))
    refused_for_memory RepeatedOutput built = absurd (built.4 distinct_outputs)
    refused_for_memory Loop built = absurd (no_circle BySingleRows c k d tables mapped sound lawful by built.5)
    refused_for_memory NoMemory built = refl
