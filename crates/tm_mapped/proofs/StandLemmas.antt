-- Each needed node of a lawful mapping has a place in the mapped circuit, and no node has two.
use Rattle.std.proofs.Common.{◌≡◌, ℕ, zero, suc, ◌<◌, inl, inr, Bool, true, false, List, length, Some, slice_get, get_or, refl, sym, ◌∙◌, ap, subst, arith}
use Rattle.std.specs.Prelude.{Contains}
use Rattle.std.proofs.lemmas.Bool.{cases_lt}
use Rattle.std.proofs.lemmas.List.Elements.{All-contains, All-get_or}
use Rattle.std.proofs.lemmas.Option.{slice_get-get_or}
use Rattle.tm_bits.specs.Rows.{Rows}
use Rattle.tm_circuit.specs.Plain.{Plain, Drive, input, latch, gate, drive, drive_in, is_gate, input_count}
use Rattle.tm_circuit.specs.Chain.{IsGate}
use Rattle.tm_circuit.specs.Source.{back, step_back}
use Rattle.tm_circuit.specs.Sound.{IsSound, ReadsBelow}
use Rattle.tm_unroll.specs.declared.node.Node.{Node}
use Rattle.tm_unroll.specs.Nodes.{node_at}
use Rattle.tm_unroll.specs.Mappings.{Table, root, IsLeafOf, IsServedOf, HasTable, HasSourceTable, IsLawful}
use Rattle.tm_unroll.specs.Leaves.{MayBeLeafOf}
use Rattle.tm_unroll.proofs.ReadLemmas.{same_node}
use Rattle.tm_unroll.proofs.JudgeLemmas.{gate_within}
use Rattle.tm_unroll.proofs.LeafLemmas.{one_of_gate}
use Rattle.tm_unroll.proofs.ListLemmas.{contains-at, pairs-at, at-within, before-never}
use Rattle.tm_unroll.specs.Nodes.{IsBefore}
use Rattle.tm_mapped.specs.Needed.{HasTablePast, IsNeeded, output, of_root, of_leaf, further, of_next, MayBeRegister, IsRegister, AreRegisters, nodes_of}
use Rattle.tm_mapped.specs.Standing.{IsPlaceOf, HasPlace, AreDistinct}
use Rattle.tm_mapped.proofs.NodeLemmas.{is_input_at, input_below, AtPlace, at_input, at_register, at_root, node_cases, input_stands, register_place, root_place}

-- ---- drives

-- What holds of each gate holds of a drive that is one.
pub at_gate : (P : Drive → Type 0) (d : Drive) → is_gate d ≡ true → ((pins : List ℕ) (cover : Rows) → P (gate pins cover)) → P d
at_gate P input is each = cc
at_gate P (latch next init) is each = cc
at_gate P (gate pins cover) is each = each pins cover

-- ---- needed nodes

-- A needed node is of the kinds of leaves, and is served as a leaf is.
pub record IsPlacedAs (c : Plain) (tables : List Table) (x : Node) : Type 0 where
  pub signal : x.signal < length c.drives
  pub kind : MayBeLeafOf 0 (drive c x.signal) x.advance
  pub served : IsServedOf (drive c x.signal) c.drives tables x

-- A node at advance 0 is of the kinds, whatever its drive.
now_kind : (d : Drive) → MayBeLeafOf 0 d 0
now_kind input = omega arith
now_kind (latch next init) = refl
now_kind (gate pins cover) = tt

-- It is served where the source of its signal has a table.
now_served : (drives : List Drive) (tables : List Table) (s : ℕ) (d : Drive) → drive_in drives s ≡ d → HasSourceTable drives tables s 0 → IsServedOf d drives tables (node_at 0 s)
now_served drives tables s input is source = tt
now_served drives tables s (latch next init) is source = source
now_served drives tables s (gate pins cover) is source = source s (ap is_gate is, (zero, refl))

leaf_kind : (d : Drive) (lag advance : ℕ) → IsLeafOf 0 d lag advance → MayBeLeafOf 0 d advance
leaf_kind input lag advance kind = kind
leaf_kind (latch next init) lag advance kind = kind
leaf_kind (gate pins cover) lag advance kind = tt

-- A gate is of the kinds at each advance, and is served where it has a table of at least that lag.
gate_placed : (c : Plain) (tables : List Table) (advance g : ℕ) → IsGate c.drives g → HasTable tables g advance → IsPlacedAs c tables (node_at advance g)
gate_placed c tables advance g is has = record {
  signal = gate_within c.drives g is;
  kind = at_gate (λ d. MayBeLeafOf 0 d advance) (drive c g) is (λ pins cover. tt);
  served = at_gate (λ d. IsServedOf d c.drives tables (node_at advance g)) (drive c g) is (λ pins cover. has);
}

module _ (c : Plain) (k d : ℕ) (tables : List Table) (sound : IsSound c) (lawful : IsLawful c k d tables) where
  output_placed : (s : ℕ) → Contains c.outputs s → IsPlacedAs c tables (node_at 0 s)
  output_placed s stands = record {
    signal = All-contains (λ o. o < length c.drives) c.outputs s sound.range.outputs stands;
    kind = now_kind (drive c s);
    served = now_served c.drives tables s (drive c s) refl (lawful.outputs s stands);
  }

  root_placed : (t : Table) → Contains tables t → IsPlacedAs c tables (root t)
  root_placed t stands = gate_placed c tables t.lag t.gate (lawful.each t stands).gate (t, stands, refl, omega arith)

  leaf_placed : (t : Table) (x : Node) → Contains tables t → Contains t.leaves x → IsPlacedAs c tables x
  leaf_placed t x stands leaf =
      let table = lawful.each t stands in
      let is = table.leaves.leaves x leaf in
      record { signal = is.signal; kind = leaf_kind (drive c x.signal) t.lag x.advance is.kind; served = table.served x leaf }

  further_placed : (g advance : ℕ) → HasTablePast tables g advance → IsPlacedAs c tables (node_at (suc advance) g)
  further_placed g advance (t, stands, is, less) =
      gate_placed c tables (suc advance) g (subst (λ s. IsGate c.drives s) is (lawful.each t stands).gate) (t, stands, is, omega (arith, less))

  next_placed : (q next : ℕ) (init : Bool) → drive c q ≡ latch next init → IsPlacedAs c tables (node_at 0 q) → IsPlacedAs c tables (node_at 0 next)
  next_placed q next init is from =
      let reads = All-get_or (ReadsBelow (length c.drives)) c.drives q (latch q false) from.signal sound.range.reads in
      let served : HasSourceTable c.drives tables q 0 = subst (λ e. IsServedOf e c.drives tables (node_at 0 q)) is from.served in
      record {
        signal = subst (λ e. ReadsBelow (length c.drives) e) is reads;
        kind = now_kind (drive c next);
        served = now_served c.drives tables next (drive c next) refl (λ g source.
            served g (source.0, (suc source.1.0, ap (λ e. back c.drives source.1.0 (step_back q e)) is ∙ source.1.1)));
      }

  pub placed : (x : Node) → IsNeeded c tables x → IsPlacedAs c tables x
  placed x (output s stands) = output_placed s stands
  placed x (of_root t stands) = root_placed t stands
  placed x (of_leaf t y stands leaf) = leaf_placed t y stands leaf
  placed x (further g advance past before) = further_placed g advance past
  placed x (of_next q next init is before) = next_placed q next init is (placed (node_at 0 q) before)

  -- What is needed has a place.
  by_drive : (x : Node) → IsNeeded c tables x → (e : Drive) → drive c x.signal ≡ e → MayBeLeafOf 0 e x.advance → IsServedOf e c.drives tables x → IsPlaceOf e c tables x
  by_drive x needed input is kind served = omega (arith, kind)
  by_drive x needed (latch next init) is kind served =
      record { needed = needed; kind = subst (λ e. MayBeRegister e tables x) (sym is) kind }
  by_drive x needed (gate pins cover) is kind (t, stands, gate_is, most) =
      elim (cases_lt x.advance t.lag) [
        | inl less ↦ inl (record { needed = needed; kind = subst (λ e. MayBeRegister e tables x) (sym is) (t, stands, gate_is, less) })
        | inr high ↦ inr (t, stands, same_node (root t) x gate_is (omega (arith, most, high)))
      ]

  pub has_place : (x : Node) → IsNeeded c tables x → HasPlace c tables x
  has_place x needed =
      let stands = placed x needed in
      record { signal = stands.signal; place = by_drive x needed (drive c x.signal) refl stands.kind stands.served }

  -- What has a place stands among the nodes.
  place_stands : (registers : List Node) → AreRegisters c tables registers → (x : Node) → HasPlace c tables x → (i : ℕ) × (slice_get (nodes_of c registers tables) i ≡ Some x)
  place_stands registers are x has = stands (drive c x.signal) refl has.place
    where
      of_register : IsRegister c tables x → (i : ℕ) × (slice_get (nodes_of c registers tables) i ≡ Some x)
      of_register register = register_place c registers tables x ((are.each x).1 register)

      stands : (e : Drive) → drive c x.signal ≡ e → IsPlaceOf e c tables x → (i : ℕ) × (slice_get (nodes_of c registers tables) i ≡ Some x)
      stands input is now =
          let below = input_below c sound x.signal has.signal is in
          (x.signal, input_stands c registers tables x.signal below ∙ ap Some (same_node (node_at 0 x.signal) x refl (sym now)))
      stands (latch next init) is register = of_register register
      stands (gate pins cover) is (inl register) = of_register register
      stands (gate pins cover) is (inr (t, among, root_is)) =
          let (i, at) = root_place c registers tables t among in
          (i, at ∙ ap Some root_is)

  pub needed_stands : (registers : List Node) → AreRegisters c tables registers → (x : Node) → IsNeeded c tables x → Contains (nodes_of c registers tables) x
  needed_stands registers are x needed =
      let (i, at) = place_stands registers are x (has_place x needed) in
      contains-at (nodes_of c registers tables) i x at

  -- ---- no node stands twice

  not_both : (x y : Node) → x ≡ y → drive c x.signal ≡ input → IsGate c.drives y.signal → ⊥
  not_both x y same is gate_is = let e = ap (λ (n : Node). is_gate (drive c n.signal)) same in let f = ap is_gate is in cc

  register_no_input : (x : Node) → IsRegister c tables x → drive c x.signal ≡ input → ⊥
  register_no_input x register is = subst (λ e. MayBeRegister e tables x) is register.kind

  register_no_root : (x : Node) (t : Table) → Contains tables t → root t ≡ x → IsRegister c tables x → ⊥
  register_no_root x t stands is register =
      let gate_is : is_gate (drive c x.signal) ≡ true = subst (λ (n : Node). is_gate (drive c n.signal) ≡ true) is (lawful.each t stands).gate in
      at_gate (λ e. MayBeRegister e tables x → ⊥) (drive c x.signal) gate_is (λ pins cover past.
      let (u, among, of_gate, less) = past in
      let same = one_of_gate 0 (λ _. 0) c k d tables t u lawful stands among (ap (λ (n : Node). n.signal) is ∙ sym of_gate) in
      let lag = ap (λ (v : Table). v.lag) same in
      let own = ap (λ (n : Node). n.advance) is in
      omega (arith, less, lag, own)) register.kind

  module _ (registers : List Node) (are : AreRegisters c tables registers) where
    register_at : (j : ℕ) (x : Node) → slice_get registers j ≡ Some x → IsRegister c tables x
    register_at j x at = (are.each x).0 (contains-at registers j x at)

    input_no_register : (i j : ℕ) (x : Node) → i < input_count c.drives → node_at 0 i ≡ x → slice_get registers j ≡ Some x → ⊥
    input_no_register i j x low is at =
        register_no_input x (register_at j x at) (subst (λ (n : Node). drive c n.signal ≡ input) is (is_input_at c sound i low))

    input_no_root : (i j : ℕ) (x : Node) (t : Table) → i < input_count c.drives → node_at 0 i ≡ x → slice_get tables j ≡ Some t → root t ≡ x → ⊥
    input_no_root i j x t low is at root_is =
        not_both (node_at 0 i) (root t) (is ∙ sym root_is) (is_input_at c sound i low) (lawful.each t (contains-at tables j t at)).gate

    one_register : (i j : ℕ) (x : Node) → slice_get registers i ≡ Some x → slice_get registers j ≡ Some x → i < j → ⊥
    one_register i j x at other less = before-never x (pairs-at IsBefore registers are.ascending i j x x less at other)

    one_root : (i j : ℕ) (t u : Table) → slice_get tables i ≡ Some t → slice_get tables j ≡ Some u → root t ≡ root u → i < j → ⊥
    one_root i j t u at other same less =
        let rises = pairs-at (λ (v : Table) (w : Table). v.gate < w.gate) tables lawful.ascending i j t u less at other in
        let e = ap (λ (n : Node). n.signal) same in
        omega (arith, rises, e)

    -- No two places have one node.
    apart : (i j : ℕ) (x : Node) → AtPlace (input_count c.drives) registers tables i x → AtPlace (input_count c.drives) registers tables j x → i < j → ⊥
    apart i j x (at_input low is) (at_input low' is') less =
        let e = ap (λ (n : Node). n.signal) (is ∙ sym is') in omega (arith, e, less)
    apart i j x (at_input low is) (at_register b there at) less = input_no_register i b x low is at
    apart i j x (at_input low is) (at_root b t there at root_is) less = input_no_root i b x t low is at root_is
    apart i j x (at_register a here at) (at_input low is) less = omega (arith, here, low, less)
    apart i j x (at_register a here at) (at_register b there other) less = one_register a b x at other (omega (arith, here, there, less))
    apart i j x (at_register a here at) (at_root b t there other root_is) less =
        register_no_root x t (contains-at tables b t other) root_is (register_at a x at)
    apart i j x (at_root a t here at root_is) (at_input low is) less = omega (arith, here, low, less)
    apart i j x (at_root a t here at root_is) (at_register b there other) less =
        let within = at-within registers b x other in
        omega (arith, here, there, less, within)
    apart i j x (at_root a t here at root_is) (at_root b u there other root_is') less =
        one_root a b t u at other (root_is ∙ sym root_is') (omega (arith, here, there, less))

    pub one_place : (i j : ℕ) (x : Node) → slice_get (nodes_of c registers tables) i ≡ Some x → slice_get (nodes_of c registers tables) j ≡ Some x → i ≡ j
    one_place i j x at other =
        let here = node_cases c registers tables i x at in
        let there = node_cases c registers tables j x other in
        elim (cases_lt i j) [
          | inl less ↦ absurd (apart i j x here there less)
          | inr high ↦ elim (cases_lt j i) [ inl more ↦ absurd (apart j i x there here more) | inr low ↦ omega (arith, high, low) ]
        ]

    pub distinct_nodes : AreDistinct (nodes_of c registers tables)
    distinct_nodes i j d less within same =
        let first = slice_get-get_or (nodes_of c registers tables) i d (omega (arith, less, within)) in
        let second = slice_get-get_or (nodes_of c registers tables) j d within in
        let e = one_place i j (get_or (nodes_of c registers tables) j d) (first ∙ ap Some same) second in
        omega (arith, e, less)
