-- How many inputs, registers and gates a mapped circuit has, and how wide its gates are.
use Rattle.std.proofs.Common.{◌≡◌, ℕ, zero, suc, ◌+◌, ◌<◌, ◌≤◌, Bool, true, false, cond, List, [], ◌∷◌, ◌++◌, map, length, Some, slice_get, refl, sym, ◌∙◌, ap, length-append, arith}
use Rattle.std.specs.Prelude.{count_by}
use Rattle.std.specs.List.{range_with_len}
use Rattle.std.proofs.lemmas.List.{length-map}
use Rattle.std.proofs.lemmas.List.FromFn.{length-map-range_with_len}
use Rattle.std.proofs.lemmas.List.Sums.{sum_by-cons}
use Rattle.std.proofs.lemmas.Option.{get_or_from_slice_get}
use Rattle.tm_circuit.specs.Plain.{Plain, Drive, input, latch, gate, drive, drive_in, is_input, is_gate, input_count, latch_count, gate_count, pins_of, widest}
use Rattle.tm_circuit.proofs.KindLemmas.{kinds-length}
use Rattle.tm_circuit.proofs.ListLemmas.{greatest-below, contains-unmap}
use Rattle.tm_unroll.specs.declared.node.Node.{Node}
use Rattle.tm_unroll.specs.Nodes.{node_at}
use Rattle.tm_unroll.specs.Mappings.{Table, root, IsLawful}
use Rattle.tm_unroll.proofs.ListLemmas.{contains-at, some-at, at-within, place-of}
use Rattle.tm_mapped.specs.Mapped.{IsRegisterDrive, CoverRule, IsMappedBy}
use Rattle.tm_mapped.specs.Needed.{nodes_of}
use Rattle.tm_mapped.proofs.ListLemmas.{drive-rest}
use Rattle.tm_mapped.proofs.NodeLemmas.{AtPlace, at_input, at_register, at_root, node_cases}
use Rattle.tm_mapped.proofs.DriveLemmas.{IsDriven, as_input, as_kept, as_moved, as_table, as_none, driven_as}
use Rattle.tm_mapped.proofs.RunLemmas.{same_long}

-- ---- lists in which just the first or just the last count

-- One where it is so, and nothing else.
abbrev one_if : Bool → ℕ
one_if b = cond b 1 0

count_cons : (p : Drive → Bool) (d : Drive) (ds : List Drive) → count_by p (d ∷ ds) ≡ one_if (p d) + count_by p ds
count_cons p d ds = sum_by-cons (λ (x : Drive). one_if (p x)) d ds

count_first : (p : Drive → Bool) (n : ℕ) (ds : List Drive) → n ≤ length ds → ((i : ℕ) → i < n → p (drive_in ds i) ≡ true)
    → ((i : ℕ) → n ≤ i → i < length ds → p (drive_in ds i) ≡ false) → count_by p ds ≡ n
count_first p zero [] few first others = refl
count_first p (suc n) [] few first others = absurd (omega arith)
count_first p zero (d ∷ ds) few first others =
    let here : one_if (p d) ≡ 0 = ap one_if (others zero (omega arith) (omega arith)) in
    let rest = count_first p zero ds (omega arith) (λ i low. absurd (omega arith)) (λ i high within. ap p (sym (drive-rest d ds i within)) ∙ others (suc i) (omega arith) (omega arith)) in
    let all = count_cons p d ds in
    omega (arith, here, rest, all)
count_first p (suc n) (d ∷ ds) few first others =
    let here : one_if (p d) ≡ 1 = ap one_if (first zero (omega arith)) in
    let rest = count_first p n ds (omega arith) (λ i low. ap p (sym (drive-rest d ds i (omega arith))) ∙ first (suc i) (omega arith)) (λ i high within. ap p (sym (drive-rest d ds i within)) ∙ others (suc i) (omega arith) (omega arith)) in
    let all = count_cons p d ds in
    omega (arith, here, rest, all)

count_last : (p : Drive → Bool) (n : ℕ) (ds : List Drive) → n ≤ length ds → ((i : ℕ) → i < n → p (drive_in ds i) ≡ false)
    → ((i : ℕ) → n ≤ i → i < length ds → p (drive_in ds i) ≡ true) → count_by p ds + n ≡ length ds
count_last p zero [] few first others = omega arith
count_last p (suc n) [] few first others = absurd (omega arith)
count_last p zero (d ∷ ds) few first others =
    let here : one_if (p d) ≡ 1 = ap one_if (others zero (omega arith) (omega arith)) in
    let rest = count_last p zero ds (omega arith) (λ i low. absurd (omega arith)) (λ i high within. ap p (sym (drive-rest d ds i within)) ∙ others (suc i) (omega arith) (omega arith)) in
    let all = count_cons p d ds in
    omega (arith, here, rest, all)
count_last p (suc n) (d ∷ ds) few first others =
    let here : one_if (p d) ≡ 0 = ap one_if (first zero (omega arith)) in
    let rest = count_last p n ds (omega arith) (λ i low. ap p (sym (drive-rest d ds i (omega arith))) ∙ first (suc i) (omega arith)) (λ i high within. ap p (sym (drive-rest d ds i within)) ∙ others (suc i) (omega arith) (omega arith)) in
    let all = count_cons p d ds in
    omega (arith, here, rest, all)

-- ---- the mapped circuit

register_no_gate : (c : Plain) (nodes : List Node) (e : Drive) (x : Node) (d : Drive) → IsRegisterDrive c nodes e x d → is_gate d ≡ false
register_no_gate c nodes input x d driven = absurd driven
register_no_gate c nodes (latch next init) x d (j, stands, is) = ap is_gate is
register_no_gate c nodes (gate pins cover) x d (j, (init, stands, first, is)) = ap is_gate is

register_no_input : (c : Plain) (nodes : List Node) (e : Drive) (x : Node) (d : Drive) → IsRegisterDrive c nodes e x d → is_input d ≡ false
register_no_input c nodes input x d driven = absurd driven
register_no_input c nodes (latch next init) x d (j, stands, is) = ap is_input is
register_no_input c nodes (gate pins cover) x d (j, (init, stands, first, is)) = ap is_input is

module _ (Covers : CoverRule) (c : Plain) (tables : List Table) (mapped : Plain) (by : IsMappedBy Covers c tables mapped) where
  pub nodes_long : length mapped.drives ≡ input_count c.drives + (length by.registers + length tables)
  nodes_long =
      let ins : List Node = map (λ s. node_at 0 s) (range_with_len 0 (input_count c.drives)) in
      let all = length-append ins (by.registers ++ map root tables) in
      let rest = length-append by.registers (map root tables) in
      let first = length-map-range_with_len (λ s. node_at 0 s) 0 (input_count c.drives) in
      let last = length-map tables root in
      let whole = by.signals in
      omega (arith, all, rest, first, last, whole)

  -- The kinds at a place.
  record HasKind (i : ℕ) : Type 0 where
    first : i < input_count c.drives → is_input (drive mapped i) ≡ true
    later : input_count c.drives ≤ i → is_input (drive mapped i) ≡ false
    low : i < input_count c.drives + length by.registers → is_gate (drive mapped i) ≡ false
    high : input_count c.drives + length by.registers ≤ i → is_gate (drive mapped i) ≡ true

  kind_at_place : (i : ℕ) (x : Node) → slice_get (nodes_of c by.registers tables) i ≡ Some x → AtPlace (input_count c.drives) by.registers tables i x → HasKind i
  kind_at_place i x at (at_input below is) = record {
    first = λ low. ap is_input (by.inputs i low);
    later = λ high. absurd (omega (arith, below, high));
    low = λ low. ap is_gate (by.inputs i below);
    high = λ high. absurd (omega (arith, below, high));
  }
  kind_at_place i x at (at_register j there register) =
      let within = at-within by.registers j x register in
      let driven = by.latches i x (contains-at by.registers j x register) at in
      record {
        first = λ low. absurd (omega (arith, there, low));
        later = λ high. register_no_input c (nodes_of c by.registers tables) (drive c x.signal) x (drive mapped i) driven;
        low = λ low. register_no_gate c (nodes_of c by.registers tables) (drive c x.signal) x (drive mapped i) driven;
        high = λ high. absurd (omega (arith, there, within, high));
      }
  kind_at_place i x at (at_root j t there among is) =
      let driven = by.gates i t (contains-at tables j t among) (at ∙ ap Some (sym is)) in
      record {
        first = λ low. absurd (omega (arith, there, low));
        later = λ high. ap is_input driven.is;
        low = λ low. absurd (omega (arith, there, low));
        high = λ high. ap is_gate driven.is;
      }

  kind_at : (i : ℕ) → i < length mapped.drives → HasKind i
  kind_at i within =
      let long = by.signals in
      let (x, at) = some-at (nodes_of c by.registers tables) i (omega (arith, long, within)) in
      kind_at_place i x at (node_cases c by.registers tables i x at)

  pub inputs_counted : input_count mapped.drives ≡ input_count c.drives
  inputs_counted =
      let long = nodes_long in
      count_first is_input (input_count c.drives) mapped.drives (omega (arith, long)) (λ i low. (kind_at i (omega (arith, long, low))).first low) (λ i high within. (kind_at i within).later high)

  pub gates_counted : gate_count mapped.drives ≡ length tables
  gates_counted =
      let long = nodes_long in
      let all = count_last is_gate (input_count c.drives + length by.registers) mapped.drives (omega (arith, long)) (λ i low. (kind_at i (omega (arith, long, low))).low low) (λ i high within. (kind_at i within).high high) in
      omega (arith, long, all)

  pub latches_counted : latch_count mapped.drives ≡ length by.registers
  latches_counted =
      let long = nodes_long in
      let kinds = kinds-length mapped.drives in
      let inputs = inputs_counted in
      let gates = gates_counted in
      omega (arith, long, kinds, inputs, gates)

  -- No gate has more pins than a table may have leaves.
  pins_few : (k d : ℕ) → IsLawful c k d tables → (i : ℕ) → length (pins_of (drive mapped i)) ≤ k
  pins_few k d lawful i = by_kind (driven_as Covers c tables mapped by i)
    where
      none : (e : Drive) → drive mapped i ≡ e → pins_of e ≡ [] → length (pins_of (drive mapped i)) ≤ k
      none e is empty = let long = ap (λ f. length (pins_of f)) is in let zero_long = ap (λ (ps : List ℕ). length ps) empty in omega (arith, long, zero_long)

      by_kind : IsDriven Covers c by.registers tables mapped i → length (pins_of (drive mapped i)) ≤ k
      by_kind (as_input low at is) = none input is refl
      by_kind (as_kept x at kept) = none (latch kept.place kept.init) kept.is refl
      by_kind (as_moved x at moved) = none (latch moved.place moved.init) moved.is refl
      by_kind (as_table t stands at driven) =
          let long = ap (λ f. length (pins_of f)) driven.is in
          let same = same_long (nodes_of c by.registers tables) driven.pins t.leaves driven.leaves in
          let few = (lawful.each t stands).leaves.few in
          omega (arith, long, same, few)
      by_kind (as_none none_there is) = none (latch i false) is refl

  pub widest_low : (k d : ℕ) → IsLawful c k d tables → widest mapped.drives ≤ k
  widest_low k d lawful =
      greatest-below (map (λ e. length (pins_of e)) mapped.drives) k (λ n stands.
      let (e, among, is) = contains-unmap (λ e. length (pins_of e)) mapped.drives n stands in
      let (i, at) = place-of mapped.drives e among in
      let here : drive mapped i ≡ e = get_or_from_slice_get mapped.drives i e (latch i false) at in
      let few = pins_few k d lawful i in
      let same = ap (λ f. length (pins_of f)) here in
      omega (arith, few, same, is))
