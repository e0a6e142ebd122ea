-- The names of a mapped circuit are distinct.
use Rattle.std.proofs.Common.{◌≡◌, ◌≢◌, ℕ, ◌<◌, ◌≤◌, List, ◌++◌, map, length, get_or, Some, slice_get, sym, ◌∙◌, ap, subst, arith}
use Rattle.std.specs.Prelude.{AllPairs}
use Rattle.std.proofs.lemmas.List.{length-map, get_or-map}
use Rattle.std.proofs.lemmas.List.Sums.{count_by-le-length}
use Rattle.std.proofs.lemmas.Option.{slice_get-get_or}
use Rattle.tm_circuit.specs.Plain.{Plain, Drive, input, latch, gate, drive, is_input, input_count}
use Rattle.tm_circuit.specs.Sound.{IsSound, clock_name, IsDistinctlyNamed}
use Rattle.tm_unroll.specs.declared.node.Node.{Node}
use Rattle.tm_unroll.specs.Nodes.{node_at}
use Rattle.tm_unroll.specs.Mappings.{Table, IsLawful}
use Rattle.tm_unroll.proofs.JudgeLemmas.{gate_within}
use Rattle.tm_unroll.proofs.ListLemmas.{contains-at}
use Rattle.tm_mapped.specs.Needed.{MayBeRegister, AreRegisters, nodes_of}
use Rattle.tm_mapped.specs.Mapped.{CoverRule, node_name, clock_for, IsMappedBy}
use Rattle.tm_mapped.proofs.NodeLemmas.{AtPlace, at_input, at_register, at_root, node_cases}
use Rattle.tm_mapped.proofs.StandLemmas.{placed, one_place}
use Rattle.tm_mapped.proofs.NameLemmas.{name_same, no_clock, kept_clock, with_clock_name}

-- The signal of a node is one of the circuit, and the node is not further ahead than lags may be.
pub record IsNear (c : Plain) (d : ℕ) (x : Node) : Type 0 where
  pub signal : x.signal < length c.drives
  pub advance : x.advance ≤ d

module _ (c : Plain) (k d : ℕ) (tables : List Table) (sound : IsSound c) (lawful : IsLawful c k d tables) where
  register_low : (x : Node) (e : Drive) → MayBeRegister e tables x → x.advance ≤ d
  register_low x input kind = absurd kind
  register_low x (latch next init) kind = omega (arith, kind)
  register_low x (gate pins cover) (t, stands, is, less) = let low = (lawful.each t stands).lag in omega (arith, less, low)

  module _ (registers : List Node) (are : AreRegisters c tables registers) where
    pub node_near : (i : ℕ) (x : Node) → slice_get (nodes_of c registers tables) i ≡ Some x → IsNear c d x
    node_near i x at = by_place (node_cases c registers tables i x at)
      where
        by_place : AtPlace (input_count c.drives) registers tables i x → IsNear c d x
        by_place (at_input low is) =
            let few = count_by-le-length is_input c.drives in
            subst (λ (n : Node). IsNear c d n) is (record { signal = omega (arith, few, low); advance = omega arith })
        by_place (at_register j there register) =
            let is = (are.each x).0 (contains-at registers j x register) in
            record { signal = (placed c k d tables sound lawful x is.needed).signal; advance = register_low x (drive c x.signal) is.kind }
        by_place (at_root j t there among is) =
            let table = lawful.each t (contains-at tables j t among) in
            subst (λ (n : Node). IsNear c d n) is (record { signal = gate_within c.drives t.gate table.gate; advance = table.lag })

    node_in : (i : ℕ) (e : Node) → i < length (nodes_of c registers tables) → IsNear c d (get_or (nodes_of c registers tables) i e)
    node_in i e within = node_near i (get_or (nodes_of c registers tables) i e) (slice_get-get_or (nodes_of c registers tables) i e within)

    named_in : (i : ℕ) (name : List ℕ) → i < length (map (node_name c) (nodes_of c registers tables))
        → (i < length (nodes_of c registers tables)) × (get_or (map (node_name c) (nodes_of c registers tables)) i name ≡ node_name c (get_or (nodes_of c registers tables) i (node_at 0 0)))
    named_in i name within =
        let long = length-map (nodes_of c registers tables) (node_name c) in
        let inside : i < length (nodes_of c registers tables) = omega (arith, long, within) in
        (inside, get_or-map (node_name c) (nodes_of c registers tables) i (node_at 0 0) name inside)

    pub names_apart : d ≤ 8 → AllPairs (λ a b. a ≢ b) (map (node_name c) (nodes_of c registers tables))
    names_apart few i j name less within same =
        let (inside_j, at_j) = named_in j name within in
        let (inside_i, at_i) = named_in i name (omega (arith, less, within)) in
        let near_i = node_in i (node_at 0 0) inside_i in
        let near_j = node_in j (node_at 0 0) inside_j in
        let low_i = near_i.advance in
        let low_j = near_j.advance in
        let one = name_same c sound (get_or (nodes_of c registers tables) i (node_at 0 0)) (get_or (nodes_of c registers tables) j (node_at 0 0)) near_i.signal near_j.signal (omega (arith, low_i, few)) (omega (arith, low_j, few)) (sym at_i ∙ (same ∙ at_j)) in
        let first = slice_get-get_or (nodes_of c registers tables) i (node_at 0 0) inside_i in
        let second = slice_get-get_or (nodes_of c registers tables) j (node_at 0 0) inside_j in
        let e = one_place c k d tables sound lawful registers are i j (get_or (nodes_of c registers tables) j (node_at 0 0)) (first ∙ ap Some one) second in
        omega (arith, e, less)

    pub all_apart : d ≤ 8 → (n : ℕ) → AllPairs (λ a b. a ≢ b) (map (node_name c) (nodes_of c registers tables) ++ clock_name (clock_for n c.clock))
    all_apart few n =
        with_clock_name (map (node_name c) (nodes_of c registers tables)) (clock_for n c.clock) (names_apart few) (λ kept is i name within same.
        let (own, is_own, named) = kept_clock n c.clock kept is in
        let (inside, at) = named_in i name within in
        no_clock c sound own is_own (get_or (nodes_of c registers tables) i (node_at 0 0)) (node_in i (node_at 0 0) inside).signal (sym at ∙ (same ∙ named)))

pub distinctly_named : (Covers : CoverRule) (c : Plain) (k d : ℕ) (tables : List Table) (mapped : Plain) → IsSound c → IsLawful c k d tables → d ≤ 8
    → IsMappedBy Covers c tables mapped → IsDistinctlyNamed mapped
distinctly_named Covers c k d tables mapped sound lawful few by =
    let apart = all_apart c k d tables sound lawful by.registers by.are few (length by.registers) in
    subst (λ (ns : List (List ℕ)). AllPairs (λ a b. a ≢ b) (ns ++ clock_name mapped.clock)) (sym by.names)
    (subst (λ k. AllPairs (λ a b. a ≢ b) (map (node_name c) (nodes_of c by.registers tables) ++ clock_name k)) (sym by.clock) apart)
