-- The mapped circuits of one mapping agree, and what agrees with one is one.
use Rattle.std.proofs.Common.{◌≡◌, ℕ, suc, ◌<◌, inl, inr, List, [], ◌∷◌, map, length, Some, slice_get, refl, sym, ◌∙◌, ap, subst, arith}
use Rattle.std.specs.Prelude.{Contains, AllPairs, ◌↔◌}
use Rattle.std.specs.List.{AllZip}
use Rattle.std.proofs.lemmas.List.Elements.{length_all_zip}
use Rattle.tm_bits.specs.Tables.{bit_of, row_number}
use Rattle.tm_circuit.specs.Plain.{Plain, Drive, input, latch, gate, drive, input_count}
use Rattle.tm_circuit.specs.Sound.{IsSound}
use Rattle.tm_circuit.proofs.ListLemmas.{contains-first, contains-rest, contains-cases, contains-none}
use Rattle.tm_circuit.proofs.Traces.{has_one_run}
use Rattle.tm_init.specs.Paths.{zeros}
use Rattle.tm_unroll.specs.declared.node.Node.{Node}
use Rattle.tm_unroll.specs.Nodes.{node_at, IsBefore}
use Rattle.tm_unroll.specs.Mappings.{Table, root, IsLawful}
use Rattle.tm_unroll.proofs.ListLemmas.{contains-at, some-at, pairs_rest, pairs_first, before-never, before-through}
use Rattle.tm_mapped.specs.Needed.{AreRegisters, nodes_of}
use Rattle.tm_mapped.specs.Mapped.{IsRegisterDrive, ByValues, IsTableDrive, node_name, clock_for, IsMappedBy}
use Rattle.tm_mapped.proofs.ListLemmas.{item-at}
use Rattle.tm_mapped.proofs.NodeLemmas.{AtPlace, at_input, at_register, at_root, node_cases}
use Rattle.tm_mapped.proofs.StandLemmas.{one_place}
use Rattle.tm_mapped.proofs.FunctionLemmas.{one_function}
use Rattle.tm_mapped.proofs.RunLemmas.{same_long}
use Rattle.tm_mapped.proofs.SameLemmas.{map-twice}
use Rattle.tm_mapped.proofs.OneLemmas.{same_unmapped}
use Rattle.cert_check.specs.Agreement.{DrivesAgree, Agree}
use Rattle.cert_check.proofs.AgreeLemmas.{agree_same, agree_with_input, agree_with_latch, agree_with_gate, drives_at, drives_zip}

-- ---- what agrees with a mapped circuit

register_agreed : (c : Plain) (nodes : List Node) (e : Drive) (x : Node) (d d' : Drive) → DrivesAgree d d' → IsRegisterDrive c nodes e x d
    → IsRegisterDrive c nodes e x d'
register_agreed c nodes input x d d' agree is = is
register_agreed c nodes (latch next init) x d d' agree (j, stands, is) =
    (j, stands, agree_with_latch j init d' (subst (λ a. DrivesAgree a d') is agree))
register_agreed c nodes (gate pins cover) x d d' agree (j, (init, stands, bit, is)) =
    (j, (init, stands, bit, agree_with_latch j init d' (subst (λ a. DrivesAgree a d') is agree)))

table_agreed : (c : Plain) (nodes : List Node) (t : Table) (d d' : Drive) → DrivesAgree d d' → IsTableDrive ByValues c nodes t d
    → IsTableDrive ByValues c nodes t d'
table_agreed c nodes t d d' agree driven =
    let like = agree_with_gate driven.pins driven.cover d' (subst (λ a. DrivesAgree a d') driven.is agree) in
    let long = same_long nodes driven.pins t.leaves driven.leaves in
    record {
      pins = driven.pins;
      cover = like.other;
      words = driven.words;
      is = like.is;
      leaves = driven.leaves;
      function = driven.function;
      covers = λ bits wide. sym (like.values bits (wide ∙ sym long)) ∙ driven.covers bits wide;
    }

pub mapped_agreed : (c : Plain) (tables : List Table) (a b : Plain) → IsMappedBy ByValues c tables a → Agree a b → IsMappedBy ByValues c tables b
mapped_agreed c tables a b by agree =
    let nodes = nodes_of c by.registers tables in
    let at = drives_at a.drives b.drives agree.drives in
    record {
      registers = by.registers;
      are = by.are;
      model = sym agree.frame.model ∙ by.model;
      clock = sym agree.frame.clock ∙ by.clock;
      names = sym agree.names ∙ by.names;
      signals = sym (length_all_zip DrivesAgree a.drives b.drives agree.drives) ∙ by.signals;
      inputs = λ i low. agree_with_input (drive b i) (subst (λ d. DrivesAgree d (drive b i)) (by.inputs i low) (at i));
      latches = λ i x stands there. register_agreed c nodes (drive c x.signal) x (drive a i) (drive b i) (at i) (by.latches i x stands there);
      gates = λ i t stands there. table_agreed c nodes t (drive a i) (drive b i) (at i) (by.gates i t stands there);
      outputs = ap (map (λ o. slice_get nodes o)) (sym agree.frame.outputs) ∙ by.outputs;
    }

-- ---- mapped circuits of one mapping

-- Nodes that ascend are told by which they are.
one_list : (xs ys : List Node) → AllPairs IsBefore xs → AllPairs IsBefore ys → ((z : Node) → Contains xs z → Contains ys z)
    → ((z : Node) → Contains ys z → Contains xs z) → xs ≡ ys
one_list [] [] up_x up_y there back = refl
one_list [] (y ∷ ys) up_x up_y there back = absurd (contains-none y (back y (contains-first y ys)))
one_list (x ∷ xs) [] up_x up_y there back = absurd (contains-none x (there x (contains-first x xs)))
one_list (x ∷ xs) (y ∷ ys) up_x up_y there back =
    let rest = one_list xs ys (pairs_rest IsBefore x xs up_x) (pairs_rest IsBefore y ys up_y) (λ z stands. later ys (there z (contains-rest x xs z stands)) (λ e.
    before-never x (pairs_first IsBefore x xs up_x x (subst (λ (n : Node). Contains xs n) (sym e ∙ sym firsts) stands)))) (λ z stands. later xs (back z (contains-rest y ys z stands)) (λ e.
    before-never y (pairs_first IsBefore y ys up_y y (subst (λ (n : Node). Contains ys n) (sym e ∙ firsts) stands)))) in
    let first = firsts in
    cc
  where
    later : {w z : Node} (zs : List Node) → Contains (w ∷ zs) z → (w ≡ z → ⊥) → Contains zs z
    later {w} {z} zs stands other = elim (contains-cases w zs z stands) [ inl e ↦ absurd (other e) | inr more ↦ more ]

    firsts : x ≡ y
    firsts =
        elim (contains-cases y ys x (there x (contains-first x xs))) [
          | inl e ↦ sym e
          | inr x_later ↦
              elim (contains-cases x xs y (back y (contains-first y ys))) [
                | inl e ↦ e
                | inr y_later ↦
                    absurd (before-never x (before-through x y x (pairs_first IsBefore x xs up_x y y_later) (pairs_first IsBefore y ys up_y x x_later)))
              ]
        ]

one_registers : (c : Plain) (tables : List Table) (xs ys : List Node) → AreRegisters c tables xs → AreRegisters c tables ys → xs ≡ ys
one_registers c tables xs ys first second =
    one_list xs ys first.ascending second.ascending (λ z stands. (second.each z).1 ((first.each z).0 stands)) (λ z stands. (first.each z).1 ((second.each z).0 stands))

-- Places of nodes are told by the nodes, where no node stands twice.
one_places : (all : List Node) (items : List Node) (places others : List ℕ) → ((i j : ℕ) (x : Node) → slice_get all i ≡ Some x → slice_get all j ≡ Some x → i ≡ j)
    → map (λ p. slice_get all p) places ≡ map (λ x. Some x) items → map (λ p. slice_get all p) others ≡ map (λ x. Some x) items → places ≡ others
one_places all items places others one first second =
    same_unmapped (λ p. slice_get all p) places others (first ∙ sym second) (λ p q in_places in_others same.
    let (x, at, among) = item-at all places items first p in_places in
    one p q x at (sym same ∙ at))

-- A mapped circuit, where the registers are given.
record IsWith (c : Plain) (tables : List Table) (registers : List Node) (mapped : Plain) : Type 0 where
  model : mapped.model ≡ c.model
  clock : mapped.clock ≡ clock_for (length registers) c.clock
  names : mapped.names ≡ map (node_name c) (nodes_of c registers tables)
  signals : length mapped.drives ≡ length (nodes_of c registers tables)
  inputs : (i : ℕ) → i < input_count c.drives → drive mapped i ≡ input
  latches : (i : ℕ) (x : Node) → Contains registers x → slice_get (nodes_of c registers tables) i ≡ Some x
      → IsRegisterDrive c (nodes_of c registers tables) (drive c x.signal) x (drive mapped i)
  gates : (i : ℕ) (t : Table) → Contains tables t → slice_get (nodes_of c registers tables) i ≡ Some (root t)
      → IsTableDrive ByValues c (nodes_of c registers tables) t (drive mapped i)
  outputs : map (λ o. slice_get (nodes_of c registers tables) o) mapped.outputs ≡ map (λ s. Some (node_at 0 s)) c.outputs

is_with : (c : Plain) (tables : List Table) (mapped : Plain) (by : IsMappedBy ByValues c tables mapped) → IsWith c tables by.registers mapped
is_with c tables mapped by = record {
  model = by.model;
  clock = by.clock;
  names = by.names;
  signals = by.signals;
  inputs = by.inputs;
  latches = by.latches;
  gates = by.gates;
  outputs = by.outputs;
}

module _ (c : Plain) (k d : ℕ) (tables : List Table) (sound : IsSound c) (lawful : IsLawful c k d tables) (registers : List Node) (are : AreRegisters c tables registers) where
  one : (i j : ℕ) (x : Node) → slice_get (nodes_of c registers tables) i ≡ Some x → slice_get (nodes_of c registers tables) j ≡ Some x → i ≡ j
  one = one_place c k d tables sound lawful registers are

  one_register_drive : (e : Drive) (x : Node) (a b : Drive) → IsRegisterDrive c (nodes_of c registers tables) e x a
      → IsRegisterDrive c (nodes_of c registers tables) e x b → a ≡ b
  one_register_drive input x a b first second = absurd first
  one_register_drive (latch next init) x a b (i, at, is) (j, other, is') =
      let e = one i j (node_at 0 next) at other in
      is ∙ (ap (λ n. latch n init) e ∙ sym is')
  one_register_drive (gate pins cover) x a b (i, (init, at, bit, is)) (j, (init', other, bit', is')) =
      let e = one i j (node_at (suc x.advance) x.signal) at other in
      let (u, obeys) = (has_one_run c sound).some zeros in
      let f : init ≡ init' = sym (bit u obeys) ∙ bit' u obeys in
      is ∙ (ap (λ n. latch n init) e ∙ (ap (λ bit. latch j bit) f ∙ sym is'))

  tables_agree : (t : Table) (a b : Drive) → Contains tables t → IsTableDrive ByValues c (nodes_of c registers tables) t a
      → IsTableDrive ByValues c (nodes_of c registers tables) t b → DrivesAgree a b
  tables_agree t a b stands first second =
      let pins = one_places (nodes_of c registers tables) t.leaves first.pins second.pins one first.leaves second.leaves in
      let long = same_long (nodes_of c registers tables) first.pins t.leaves first.leaves in
      let function = one_function c k d tables t sound lawful stands in
      let agree : DrivesAgree (gate first.pins first.cover) (gate second.pins second.cover) = (
        pins,
        λ bits wide.
            let wide' : length bits ≡ length t.leaves = wide ∙ long in
            first.covers bits wide'
            ∙ (function.one (λ bits. bit_of first.words (row_number bits)) (λ bits. bit_of second.words (row_number bits)) first.function second.function bits wide'
            ∙ sym (second.covers bits wide')),
      ) in
      subst (λ x. DrivesAgree x b) (sym first.is) (subst (λ x. DrivesAgree (gate first.pins first.cover) x) (sym second.is) agree)

  module _ (a b : Plain) (first : IsWith c tables registers a) (second : IsWith c tables registers b) where
    agree_at : (i : ℕ) (x : Node) → slice_get (nodes_of c registers tables) i ≡ Some x → AtPlace (input_count c.drives) registers tables i x → DrivesAgree (drive a i) (drive b i)
    agree_at i x at (at_input low is) = agree_same (drive a i) (drive b i) (first.inputs i low ∙ sym (second.inputs i low))
    agree_at i x at (at_register j there register) =
        let stands = contains-at registers j x register in
        agree_same (drive a i) (drive b i) (one_register_drive (drive c x.signal) x (drive a i) (drive b i) (first.latches i x stands at) (second.latches i x stands at))
    agree_at i x at (at_root j t there among is) =
        let stands = contains-at tables j t among in
        let here = at ∙ ap Some (sym is) in
        tables_agree t (drive a i) (drive b i) stands (first.gates i t stands here) (second.gates i t stands here)

    all_agree : AllZip DrivesAgree a.drives b.drives
    all_agree =
        let long = first.signals in
        drives_zip a.drives b.drives (first.signals ∙ sym second.signals) (λ i within.
        let (x, at) = some-at (nodes_of c registers tables) i (omega (arith, long, within)) in
        agree_at i x at (node_cases c registers tables i x at))

    same_outs : a.outputs ≡ b.outputs
    same_outs =
        let ends : List Node = map (λ s. node_at 0 s) c.outputs in
        let back : map (λ (x : Node). Some x) ends ≡ map (λ s. Some (node_at 0 s)) c.outputs = map-twice (λ (x : Node). Some x) (λ s. node_at 0 s) c.outputs in
        one_places (nodes_of c registers tables) ends a.outputs b.outputs one (first.outputs ∙ sym back) (second.outputs ∙ sym back)

    circuits_agree : Agree a b
    circuits_agree = record {
      frame = record { model = first.model ∙ sym second.model; clock = first.clock ∙ sym second.clock; outputs = same_outs };
      names = first.names ∙ sym second.names;
      drives = all_agree;
    }

pub mapped_agree : (c : Plain) (k d : ℕ) (tables : List Table) (a b : Plain) → IsSound c → IsLawful c k d tables → IsMappedBy ByValues c tables a
    → IsMappedBy ByValues c tables b → Agree a b
mapped_agree c k d tables a b sound lawful by_a by_b =
    let registers = one_registers c tables by_b.registers by_a.registers by_b.are by_a.are in
    circuits_agree c k d tables sound lawful by_a.registers by_a.are a b (is_with c tables a by_a)
    (subst (λ (rs : List Node). IsWith c tables rs b) registers (is_with c tables b by_b))

pub mapped_circuits : (c : Plain) (k d : ℕ) (tables : List Table) (mapped other : Plain) → IsSound c → IsLawful c k d tables
    → IsMappedBy ByValues c tables mapped → IsMappedBy ByValues c tables other ↔ Agree mapped other
mapped_circuits c k d tables mapped other sound lawful by =
    (mapped_agree c k d tables mapped other sound lawful by, mapped_agreed c tables mapped other by)
