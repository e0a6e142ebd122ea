-- A mapping has at most one mapped circuit.
use Rattle.std.proofs.Common.{◌≡◌, ℕ, suc, ◌^◌, ◌<◌, inl, inr, Bool, true, false, cond, List, [], ◌∷◌, map, length, Some, slice_get, refl, sym, ◌∙◌, ap, subst, arith}
use Rattle.std.specs.Prelude.{Contains, AllPairs, filter}
use Rattle.std.specs.List.{range_with_len}
use Rattle.std.proofs.lemmas.List.{ext_get_or, get_or_default}
use Rattle.std.proofs.lemmas.List.FromFn.{length-range_with_len, get_or-range_with_len}
use Rattle.tm_bits.specs.Tables.{bit_of, bits_of, row_number, minterm}
use Rattle.tm_bits.proofs.RowNumbers.{length-bits_of, row_number-bits_of}
use Rattle.tm_circuit.specs.Plain.{Plain, Drive, input, latch, gate, drive, input_count}
use Rattle.tm_circuit.specs.Sound.{IsSound}
use Rattle.tm_circuit.proofs.ListLemmas.{contains-first, contains-rest, contains-cases, contains-none}
use Rattle.tm_circuit.proofs.Traces.{has_one_run}
use Rattle.tm_init.specs.Paths.{zeros}
use Rattle.tm_unroll.specs.declared.node.Node.{Node}
use Rattle.tm_unroll.specs.Nodes.{node_at, IsBefore}
use Rattle.tm_unroll.specs.Mappings.{Table, root, IsLawful}
use Rattle.tm_unroll.proofs.ListLemmas.{contains-at, some-at, pairs_rest, pairs_first, before-never, before-through}
use Rattle.tm_mapped.specs.Needed.{AreRegisters, nodes_of}
use Rattle.tm_mapped.specs.Mapped.{IsRegisterDrive, BySingleRows, IsTableDrive, node_name, clock_for, IsMapped}
use Rattle.tm_mapped.proofs.ListLemmas.{item-at}
use Rattle.tm_mapped.proofs.NodeLemmas.{AtPlace, at_input, at_register, at_root, node_cases}
use Rattle.tm_mapped.proofs.StandLemmas.{one_place}
use Rattle.tm_mapped.proofs.FunctionLemmas.{one_function}
use Rattle.tm_mapped.proofs.SameLemmas.{map-twice}
use Rattle.tm_mapped.proofs.OneLemmas.{same_unmapped}

-- ---- lists

-- Nodes that ascend are told by which they are.
one_list : (xs ys : List Node) → AllPairs IsBefore xs → AllPairs IsBefore ys → ((z : Node) → Contains xs z → Contains ys z)
    → ((z : Node) → Contains ys z → Contains xs z) → xs ≡ ys
one_list [] [] up_x up_y there back = refl
one_list [] (y ∷ ys) up_x up_y there back = absurd (contains-none y (back y (contains-first y ys)))
one_list (x ∷ xs) [] up_x up_y there back = absurd (contains-none x (there x (contains-first x xs)))
one_list (x ∷ xs) (y ∷ ys) up_x up_y there back =
    let rest = one_list xs ys (pairs_rest IsBefore x xs up_x) (pairs_rest IsBefore y ys up_y) (λ z stands. later ys (there z (contains-rest x xs z stands)) (λ e.
    before-never x (pairs_first IsBefore x xs up_x x (subst (λ (n : Node). Contains xs n) (sym e ∙ sym firsts) stands)))) (λ z stands. later xs (back z (contains-rest y ys z stands)) (λ e.
    before-never y (pairs_first IsBefore y ys up_y y (subst (λ (n : Node). Contains ys n) (sym e ∙ firsts) stands)))) in
    let first = firsts in
    cc
  where
    later : {w z : Node} (zs : List Node) → Contains (w ∷ zs) z → (w ≡ z → ⊥) → Contains zs z
    later {w} {z} zs stands other = elim (contains-cases w zs z stands) [ inl e ↦ absurd (other e) | inr more ↦ more ]

    firsts : x ≡ y
    firsts =
        elim (contains-cases y ys x (there x (contains-first x xs))) [
          | inl e ↦ sym e
          | inr x_later ↦
              elim (contains-cases x xs y (back y (contains-first y ys))) [
                | inl e ↦ e
                | inr y_later ↦
                    absurd (before-never x (before-through x y x (pairs_first IsBefore x xs up_x y y_later) (pairs_first IsBefore y ys up_y x x_later)))
              ]
        ]

-- Tests that agree on a list keep the same of it.
filter_agree : (p q : ℕ → Bool) (xs : List ℕ) → ((x : ℕ) → Contains xs x → p x ≡ q x) → filter p xs ≡ filter q xs
filter_agree p q [] agree = refl
filter_agree p q (x ∷ xs) agree =
    let first = agree x (contains-first x xs) in
    let rest = filter_agree p q xs (λ y stands. agree y (contains-rest x xs y stands)) in
    ap (λ b. cond b (x ∷ filter p xs) (filter p xs)) first ∙ ap (λ ys. cond (q x) (x ∷ ys) ys) rest

range_low : (n x : ℕ) → Contains (range_with_len 0 n) x → x < n
range_low n x (k, within, is) =
    let long = length-range_with_len 0 n in
    let low : k < n = omega (arith, long, within) in
    let at = get_or-range_with_len 0 n k x low in
    omega (arith, at, is, low)

-- Places of nodes are told by the nodes, where no node stands twice.
one_places : (all : List Node) (items : List Node) (places others : List ℕ) → ((i j : ℕ) (x : Node) → slice_get all i ≡ Some x → slice_get all j ≡ Some x → i ≡ j)
    → map (λ p. slice_get all p) places ≡ map (λ x. Some x) items → map (λ p. slice_get all p) others ≡ map (λ x. Some x) items → places ≡ others
one_places all items places others one first second =
    same_unmapped (λ p. slice_get all p) places others (first ∙ sym second) (λ p q in_places in_others same.
    let (x, at, among) = item-at all places items first p in_places in
    one p q x at (sym same ∙ at))

-- ---- drives

module _ (c : Plain) (k d : ℕ) (tables : List Table) (sound : IsSound c) (lawful : IsLawful c k d tables) (registers : List Node) (are : AreRegisters c tables registers) where
  one : (i j : ℕ) (x : Node) → slice_get (nodes_of c registers tables) i ≡ Some x → slice_get (nodes_of c registers tables) j ≡ Some x → i ≡ j
  one = one_place c k d tables sound lawful registers are

  one_register_drive : (e : Drive) (x : Node) (a b : Drive) → IsRegisterDrive c (nodes_of c registers tables) e x a
      → IsRegisterDrive c (nodes_of c registers tables) e x b → a ≡ b
  one_register_drive input x a b first second = absurd first
  one_register_drive (latch next init) x a b (i, at, is) (j, other, is') =
      let e = one i j (node_at 0 next) at other in
      is ∙ (ap (λ n. latch n init) e ∙ sym is')
  one_register_drive (gate pins cover) x a b (i, (init, at, bit, is)) (j, (init', other, bit', is')) =
      let e = one i j (node_at (suc x.advance) x.signal) at other in
      let (u, obeys) = (has_one_run c sound).some zeros in
      let f : init ≡ init' = sym (bit u obeys) ∙ bit' u obeys in
      is ∙ (ap (λ n. latch n init) e ∙ (ap (λ bit. latch j bit) f ∙ sym is'))

  one_table_drive : (t : Table) (a b : Drive) → Contains tables t → IsTableDrive BySingleRows c (nodes_of c registers tables) t a
      → IsTableDrive BySingleRows c (nodes_of c registers tables) t b → a ≡ b
  one_table_drive t a b stands first second =
      let pins = one_places (nodes_of c registers tables) t.leaves first.pins second.pins one first.leaves second.leaves in
      let n = length t.leaves in
      let same : (row : ℕ) → row < 2 ^ n → bit_of first.words row ≡ bit_of second.words row = λ row low.
      let f = (one_function c k d tables t sound lawful stands).one (λ bits. bit_of first.words (row_number bits)) (λ bits. bit_of second.words (row_number bits)) first.function second.function (bits_of n row) (length-bits_of n row) in
      let at = row_number-bits_of n row low in
      ap (bit_of first.words) (sym at) ∙ (f ∙ ap (bit_of second.words) at) in
      let kept = filter_agree (bit_of first.words) (bit_of second.words) (range_with_len 0 (2 ^ n)) (λ row stands. same row (range_low (2 ^ n) row stands)) in
      let covers : first.cover ≡ second.cover = first.covers ∙ (ap (λ rows. record { on = true; rows = map (minterm n) rows }) kept ∙ sym second.covers) in
      first.is ∙ (ap (λ ps. gate ps first.cover) pins ∙ (ap (λ made. gate second.pins made) covers ∙ sym second.is))

-- ---- the whole

-- A mapped circuit, where the registers are given.
record IsWith (c : Plain) (tables : List Table) (registers : List Node) (mapped : Plain) : Type 0 where
  model : mapped.model ≡ c.model
  clock : mapped.clock ≡ clock_for (length registers) c.clock
  names : mapped.names ≡ map (node_name c) (nodes_of c registers tables)
  signals : length mapped.drives ≡ length (nodes_of c registers tables)
  inputs : (i : ℕ) → i < input_count c.drives → drive mapped i ≡ input
  latches : (i : ℕ) (x : Node) → Contains registers x → slice_get (nodes_of c registers tables) i ≡ Some x
      → IsRegisterDrive c (nodes_of c registers tables) (drive c x.signal) x (drive mapped i)
  gates : (i : ℕ) (t : Table) → Contains tables t → slice_get (nodes_of c registers tables) i ≡ Some (root t)
      → IsTableDrive BySingleRows c (nodes_of c registers tables) t (drive mapped i)
  outputs : map (λ o. slice_get (nodes_of c registers tables) o) mapped.outputs ≡ map (λ s. Some (node_at 0 s)) c.outputs

is_with : (c : Plain) (tables : List Table) (mapped : Plain) (by : IsMapped c tables mapped) → IsWith c tables by.registers mapped
is_with c tables mapped by = record {
  model = by.model;
  clock = by.clock;
  names = by.names;
  signals = by.signals;
  inputs = by.inputs;
  latches = by.latches;
  gates = by.gates;
  outputs = by.outputs;
}

same_plain : (a b : Plain) → a.model ≡ b.model → a.clock ≡ b.clock → a.names ≡ b.names → a.drives ≡ b.drives → a.outputs ≡ b.outputs → a ≡ b
same_plain a b of_model of_clock of_names of_drives of_outputs = λ i. record {
  model = of_model i;
  clock = of_clock i;
  names = of_names i;
  drives = of_drives i;
  outputs = of_outputs i;
}

module _ (c : Plain) (k d : ℕ) (tables : List Table) (sound : IsSound c) (lawful : IsLawful c k d tables) (registers : List Node) (are : AreRegisters c tables registers)
    (a b : Plain) (first : IsWith c tables registers a) (second : IsWith c tables registers b)
  where
    same_drive : (i : ℕ) (x : Node) → slice_get (nodes_of c registers tables) i ≡ Some x → AtPlace (input_count c.drives) registers tables i x → drive a i ≡ drive b i
    same_drive i x at (at_input low is) = first.inputs i low ∙ sym (second.inputs i low)
    same_drive i x at (at_register j there register) =
        let stands = contains-at registers j x register in
        one_register_drive c k d tables sound lawful registers are (drive c x.signal) x (drive a i) (drive b i) (first.latches i x stands at) (second.latches i x stands at)
    same_drive i x at (at_root j t there among is) =
        let stands = contains-at tables j t among in
        let here = at ∙ ap Some (sym is) in
        one_table_drive c k d tables sound lawful registers are t (drive a i) (drive b i) stands (first.gates i t stands here) (second.gates i t stands here)

    same_drives : a.drives ≡ b.drives
    same_drives =
        let long_a = first.signals in
        let long_b = second.signals in
        ext_get_or (latch 0 false) a.drives b.drives (long_a ∙ sym long_b) (λ i within.
        let (x, at) = some-at (nodes_of c registers tables) i (omega (arith, long_a, within)) in
        get_or_default a.drives i (latch 0 false) (latch i false) within
        ∙ (same_drive i x at (node_cases c registers tables i x at) ∙ get_or_default b.drives i (latch i false) (latch 0 false) (omega (arith, long_a, long_b, within))))

    same_outs : a.outputs ≡ b.outputs
    same_outs =
        let ends : List Node = map (λ s. node_at 0 s) c.outputs in
        let back : map (λ (x : Node). Some x) ends ≡ map (λ s. Some (node_at 0 s)) c.outputs = map-twice (λ (x : Node). Some x) (λ s. node_at 0 s) c.outputs in
        one_places (nodes_of c registers tables) ends a.outputs b.outputs (one_place c k d tables sound lawful registers are) (first.outputs ∙ sym back) (second.outputs ∙ sym back)

    same_whole : a ≡ b
    same_whole =
        same_plain a b (first.model ∙ sym second.model) (first.clock ∙ sym second.clock) (first.names ∙ sym second.names) same_drives same_outs

pub one_mapped : (c : Plain) (k d : ℕ) (tables : List Table) (a b : Plain) → IsSound c → IsLawful c k d tables → IsMapped c tables a → IsMapped c tables b → a ≡ b
one_mapped c k d tables a b sound lawful by_a by_b =
    let registers : by_b.registers ≡ by_a.registers =
    one_list by_b.registers by_a.registers by_b.are.ascending by_a.are.ascending (λ z stands. (by_a.are.each z).1 ((by_b.are.each z).0 stands)) (λ z stands. (by_b.are.each z).1 ((by_a.are.each z).0 stands)) in
    same_whole c k d tables sound lawful by_a.registers by_a.are a b (is_with c tables a by_a) (subst (λ (rs : List Node). IsWith c tables rs b) registers (is_with c tables b by_b))
