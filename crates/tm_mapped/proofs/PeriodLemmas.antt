-- Chains of tables are chains of gates of the mapped circuit.
use Rattle.std.proofs.Common.{◌≡◌, ℕ, suc, List, [], ◌∷◌, length, Some, slice_get, refl, sym, ◌∙◌, ap, subst, arith}
use Rattle.std.specs.Prelude.{Contains}
use Rattle.tm_circuit.specs.Plain.{Plain, drive, is_gate, pins_of}
use Rattle.tm_circuit.specs.Chain.{IsGate, IsPin, IsChain as IsGateChain, IsPeriod}
use Rattle.tm_unroll.specs.declared.node.Node.{Node}
use Rattle.tm_unroll.specs.Mappings.{Table, root}
use Rattle.tm_unroll.specs.Chains.{IsChain, IsPeriodOf}
use Rattle.tm_unroll.proofs.ListLemmas.{one-at}
use Rattle.tm_mapped.specs.Mapped.{CoverRule, IsTableDrive, IsMappedBy}
use Rattle.tm_mapped.specs.Needed.{nodes_of}
use Rattle.tm_mapped.proofs.ListLemmas.{item-at, place-at}
use Rattle.tm_mapped.proofs.NodeLemmas.{root_place}
use Rattle.tm_mapped.proofs.DriveLemmas.{IsDriven, as_input, as_kept, as_moved, as_table, as_none, driven_as}

-- A gate stands for a table of the mapping.
pub record IsGateOf (Covers : CoverRule) (c : Plain) (nodes : List Node) (tables : List Table) (mapped : Plain) (g : ℕ) (t : Table) : Type 0 where
  pub stands : Contains tables t
  pub at : slice_get nodes g ≡ Some (root t)
  pub driven : IsTableDrive Covers c nodes t (drive mapped g)

module _ (Covers : CoverRule) (c : Plain) (tables : List Table) (mapped : Plain) (by : IsMappedBy Covers c tables mapped) where
  is_gate_of : (g : ℕ) (t : Table) → IsGateOf Covers c (nodes_of c by.registers tables) tables mapped g t → IsGate mapped.drives g
  is_gate_of g t of = ap is_gate of.driven.is

  -- Each gate stands for a table.
  table_of_gate : (g : ℕ) → IsGate mapped.drives g → (t : Table) × IsGateOf Covers c (nodes_of c by.registers tables) tables mapped g t
  table_of_gate g is = by_kind (driven_as Covers c tables mapped by g)
    where
      by_kind : IsDriven Covers c by.registers tables mapped g → (t : Table) × IsGateOf Covers c (nodes_of c by.registers tables) tables mapped g t
      by_kind (as_input low at driven) = let e = ap is_gate driven in cc
      by_kind (as_kept x at kept) = let e = ap is_gate kept.is in cc
      by_kind (as_moved x at moved) = let e = ap is_gate moved.is in cc
      by_kind (as_table t stands at driven) = (t, record { stands = stands; at = at; driven = driven })
      by_kind (as_none none driven) = let e = ap is_gate driven in cc

  -- A pin that stands for a table's root is read where the root is a leaf.
  pin_is_leaf : (g h : ℕ) (t u : Table) → IsGateOf Covers c (nodes_of c by.registers tables) tables mapped g t
      → IsGateOf Covers c (nodes_of c by.registers tables) tables mapped h u → IsPin mapped.drives g h → Contains u.leaves (root t)
  pin_is_leaf g h t u of_t of_u pin =
      let own : Contains of_u.driven.pins g = subst (λ e. Contains (pins_of e) g) of_u.driven.is pin in
      let (leaf, leaf_at, among) = item-at (nodes_of c by.registers tables) of_u.driven.pins u.leaves of_u.driven.leaves g own in
      subst (λ (n : Node). Contains u.leaves n) (one-at (nodes_of c by.registers tables) g leaf (root t) leaf_at of_t.at) among

  -- A leaf that is a table's root is read by a pin that stands for it.
  leaf_is_pin : (h : ℕ) (t u : Table) → Contains tables t → IsGateOf Covers c (nodes_of c by.registers tables) tables mapped h u → Contains u.leaves (root t)
      → (g : ℕ) × IsGateOf Covers c (nodes_of c by.registers tables) tables mapped g t × IsPin mapped.drives g h
  leaf_is_pin h t u stands of_u leaf =
      let (g, own, at) = place-at (nodes_of c by.registers tables) of_u.driven.pins u.leaves of_u.driven.leaves (root t) leaf in
      (g, record { stands = stands; at = at; driven = by.gates g t stands at }, subst (λ e. Contains (pins_of e) g) (sym of_u.driven.is) own)

  -- Gates stand for tables, one by one.
  StandFor : List ℕ → List Table → Type 0
  StandFor [] [] = Unit {0}
  StandFor [] (t ∷ ts) = ⊥
  StandFor (g ∷ gs) [] = ⊥
  StandFor (g ∷ gs) (t ∷ ts) = IsGateOf Covers c (nodes_of c by.registers tables) tables mapped g t × StandFor gs ts

  same_number : (gs : List ℕ) (ts : List Table) → StandFor gs ts → length gs ≡ length ts
  unfolding StandFor
  same_number [] [] stand = refl
  same_number [] (t ∷ ts) stand = absurd stand
  same_number (g ∷ gs) [] stand = absurd stand
  same_number (g ∷ gs) (t ∷ ts) stand = ap suc (same_number gs ts stand.1)

  tables_of_chain : (gs : List ℕ) → IsGateChain mapped.drives gs → (ts : List Table) × IsChain tables ts × StandFor gs ts
  unfolding StandFor
  tables_of_chain [] chain = ([], tt, tt)
  tables_of_chain (g ∷ []) chain = let (t, of) = table_of_gate g chain.0 in (t ∷ [], (of.stands, tt, tt), (of, tt))
  tables_of_chain (g ∷ h ∷ gs) chain = let (t, of) = table_of_gate g chain.0 in further t of (tables_of_chain (h ∷ gs) chain.2)
    where
      further : (t : Table) → IsGateOf Covers c (nodes_of c by.registers tables) tables mapped g t → (ts : List Table) × IsChain tables ts × StandFor (h ∷ gs) ts
          → (ts : List Table) × IsChain tables ts × StandFor (g ∷ h ∷ gs) ts
      further t of ([], is, stand) = absurd stand
      further t of (u ∷ ts, is, stand) = (t ∷ u ∷ ts, (of.stands, pin_is_leaf g h t u of stand.0 chain.1, is), (of, stand))

  gates_of_chain : (ts : List Table) → IsChain tables ts → (gs : List ℕ) × IsGateChain mapped.drives gs × StandFor gs ts
  unfolding StandFor
  gates_of_chain [] chain = ([], tt, tt)
  gates_of_chain (t ∷ []) chain =
      let (g, at) = root_place c by.registers tables t chain.0 in
      let of : IsGateOf Covers c (nodes_of c by.registers tables) tables mapped g t = record { stands = chain.0; at = at; driven = by.gates g t chain.0 at } in
      (g ∷ [], (is_gate_of g t of, tt, tt), (of, tt))
  gates_of_chain (t ∷ u ∷ ts) chain = further (gates_of_chain (u ∷ ts) chain.2)
    where
      further : (gs : List ℕ) × IsGateChain mapped.drives gs × StandFor gs (u ∷ ts) → (gs : List ℕ) × IsGateChain mapped.drives gs × StandFor gs (t ∷ u ∷ ts)
      further ([], is, stand) = absurd stand
      further (h ∷ gs, is, stand) =
          let (g, of, pin) = leaf_is_pin h t u chain.0 stand.0 chain.1 in
          (g ∷ h ∷ gs, (is_gate_of g t of, pin, is), (of, stand))

  pub period_there : (p : ℕ) → IsPeriodOf tables p → IsPeriod mapped p
  period_there p is =
      let (ts, chain, long) = is.reached in
      let (gs, gate_chain, stand) = gates_of_chain ts chain in
      record {
        reached = (gs, gate_chain, same_number gs ts stand ∙ long);
        greatest = λ gs chain.
            let (ts, table_chain, stand) = tables_of_chain gs chain in
            let few = is.greatest ts table_chain in
            let same = same_number gs ts stand in
            omega (arith, few, same);
      }

  pub period_here : (p : ℕ) → IsPeriod mapped p → IsPeriodOf tables p
  period_here p is =
      let (gs, chain, long) = is.reached in
      let (ts, table_chain, stand) = tables_of_chain gs chain in
      record {
        reached = (ts, table_chain, sym (same_number gs ts stand) ∙ long);
        greatest = λ ts chain.
            let (gs, gate_chain, stand) = gates_of_chain ts chain in
            let few = is.greatest gs gate_chain in
            let same = same_number gs ts stand in
            omega (arith, few, same);
      }
