-- Each gate as its own table, at the lag of a base: there is such a mapping, it is lawful, and its chains are chains of the
-- circuit. At base 0 it is the mapping at lag 0.
use Rattle.std.proofs.Common.{◌≡◌, ℕ, zero, suc, ◌<◌, ◌≤◌, ◌⊎◌, inl, inr, Bool, true, false, List, [], ◌∷◌, ◌++◌, map, length, refl, sym, ◌∙◌, ap, subst, arith}
use Rattle.std.specs.Prelude.{Contains, AllPairs, slice_index_or}
use Rattle.std.proofs.lemmas.Bool.{cases_lt}
use Rattle.std.proofs.lemmas.List.{length-map}
use Rattle.std.proofs.lemmas.List.Elements.{Contains-push, Contains-append_left, Contains-push_cases}
use Rattle.tm_circuit.specs.Plain.{Plain, Drive, input, latch, gate, drive_in, is_gate, pins_of, widest}
use Rattle.tm_circuit.specs.Chain.{IsGate, IsPeriod, IsChain as IsGateChain}
use Rattle.tm_circuit.specs.Sound.{IsSound, ReadsBelow}
use Rattle.tm_circuit.proofs.ListLemmas.{contains-first, contains-cases, contains-none, contains-map, contains-unmap, greatest-above}
use Rattle.tm_unroll.specs.declared.node.Node.{Node}
use Rattle.tm_unroll.specs.Nodes.{node_at, reads, is_end_of, IsBefore}
use Rattle.tm_unroll.specs.Walks.{IsReached, Covers}
use Rattle.tm_unroll.specs.Mappings.{Table, root, IsLeaf, HasLeaves, HasTable, HasSourceTable, IsServedOf, AreServed, IsLawfulFrom}
use Rattle.tm_unroll.specs.Chains.{IsChain, HasChainsWithin}
use Rattle.tm_unroll.specs.Replaced.{ReplacesEach}
use Rattle.tm_unroll.specs.Latches.{behind_latches, NeedAtMost}
use Rattle.tm_unroll.specs.Own.{IsOwnMapping, OwnTablesServe, IsOwnTableFrom, IsOwnMappingFrom, OwnTablesServeFrom}
use Rattle.tm_unroll.proofs.ListLemmas.{fits, apart_from_pairs, before-never, pairs-push}
use Rattle.tm_unroll.proofs.ReadLemmas.{same_node, gate_reads, reads_pin}
use Rattle.tm_unroll.proofs.JudgeLemmas.{gate_within}
use Rattle.tm_unroll.proofs.ReplaceLemmas.{reads_cover, each_replaced}
use Rattle.tm_unroll.proofs.OrderLemmas.{in_order}
use Rattle.tm_unroll.proofs.BehindLemmas.{behind_low, behind_same, behind_leaf, behind_within, behind_covers}

-- ---- such a mapping is lawful

-- A gate's pins are signals.
pin_within : (n : ℕ) (d : Drive) → ReadsBelow n d → (p : ℕ) → Contains (pins_of d) p → p < n
pin_within n input below p (k, inside, is) = absurd (omega arith)
pin_within n (latch next init) below p (k, inside, is) = absurd (omega arith)
pin_within n (gate pins cover) below p (k, inside, is) = subst (λ q. q < n) is (below k p inside)

-- What drives a signal stands among the drives.
drive_stands : (drives : List Drive) (s : ℕ) → s < length drives → Contains drives (drive_in drives s)
drive_stands [] s inside = absurd (omega arith)
drive_stands drives s inside = (s, inside, drive_read drives s inside (drive_in drives s))
  where
    drive_read : (ds : List Drive) (n : ℕ) → n < length ds → (e : Drive) → slice_index_or ds n e ≡ slice_index_or ds n (latch s false)
    drive_read [] n w e = absurd (omega arith)
    drive_read (x ∷ ds) zero w e = refl
    drive_read (x ∷ ds) (suc n) w e = drive_read ds n (omega arith) e

pub pins_within : (c : Plain) → IsSound c → (g : ℕ) → IsGate c.drives g → (p : ℕ) → Contains (pins_of (drive_in c.drives g)) p → p < length c.drives
pins_within c sound g is p stands =
    let at = drive_stands c.drives g (gate_within c.drives g is) in
    let below : ReadsBelow (length c.drives) (drive_in c.drives g) = subst (λ (d : Drive). ReadsBelow (length c.drives) d) at.2 (sound.range.reads at.0 (drive_in c.drives g) at.1) in
    pin_within (length c.drives) (drive_in c.drives g) below p stands

-- A gate has at most as many pins as the widest.
pub pins_few : (drives : List Drive) (g : ℕ) → g < length drives → length (pins_of (drive_in drives g)) ≤ widest drives
pins_few drives g inside =
    greatest-above (map (λ d. length (pins_of d)) drives) (length (pins_of (drive_in drives g))) (contains-map (λ d. length (pins_of d)) drives (drive_in drives g) (drive_stands drives g inside))

gate_goes_on : (d : Drive) (a : ℕ) → is_gate d ≡ true → is_end_of d a ≡ false
gate_goes_on input a is = cc
gate_goes_on (latch next init) a is = cc
gate_goes_on (gate pins cover) a is = refl

module _ (base : ℕ) (need : ℕ → ℕ) (c : Plain) (k d : ℕ) (sound : IsSound c) (near : base ≤ d) (needs : NeedAtMost base need c) (narrow : widest c.drives ≤ k)
    (tables : List Table) (own : IsOwnMappingFrom base c.drives tables) where
  has_gate : (t : Table) → Contains tables t → IsGate c.drives t.gate
  has_gate t stands = (own.gates t.gate).1 (t, stands, refl)

  -- Each gate has a table of each lag up to the base.
  has_table : (g a : ℕ) → IsGate c.drives g → a ≤ base → HasTable tables g a
  has_table g a is low =
      let t = (own.gates g).0 is in
      let lag = (own.own t.0 t.1).lag in
      (t.0, t.1, t.2, omega (arith, lag, low))

  has_source : (s a : ℕ) → a ≤ base → HasSourceTable c.drives tables s a
  has_source s a low g source = has_table g a source.0 low

  own_few : (t : Table) → Contains tables t → length t.leaves ≤ k
  own_few t stands =
      let pins = pins_of (drive_in c.drives t.gate) in
      let table = own.own t stands in
      let apart = apart_from_pairs IsBefore t.leaves before-never table.ascending in
      let few = fits t.leaves (map (λ p. behind_latches c.drives base p) pins) apart (λ x leaf.
      let (p, pin, is) = (table.leaves x).0 leaf in
      subst (λ (y : Node). Contains (map (λ q. behind_latches c.drives base q) pins) y) is (contains-map (λ q. behind_latches c.drives base q) pins p pin)) in
      let long = length-map pins (λ p. behind_latches c.drives base p) in
      let wide = pins_few c.drives t.gate (gate_within c.drives t.gate (has_gate t stands)) in
      omega (arith, few, long, wide, narrow)

  own_leaves : (t : Table) → Contains tables t → HasLeaves base c.drives k t
  own_leaves t stands = record {
    few = own_few t stands;
    ascending = (own.own t stands).ascending;
    leaves = λ x leaf.
        let (p, pin, is) = ((own.own t stands).leaves x).0 leaf in
        let lag = (own.own t stands).lag in
        subst (λ (y : Node). IsLeaf base c.drives t.lag y) is record {
          signal = behind_within c sound base p (pins_within c sound t.gate (has_gate t stands) p pin);
          kind = behind_leaf base t.lag c.drives base p (omega arith) (omega (arith, lag));
        };
  }

  -- Each pin is a leaf or covered by one.
  own_replaces : (t : Table) → Contains tables t → ReplacesEach c.drives (reads c.drives (node_at base t.gate)) t.leaves
  own_replaces t stands = record { each = each; only = only }
    where
      table : IsOwnTableFrom base c.drives (pins_of (drive_in c.drives t.gate)) t
      table = own.own t stands

      each : (y : Node) → Contains (reads c.drives (node_at base t.gate)) y
          → Contains t.leaves y ⊎ ((others : List Node) × Covers c.drives others y × ((z : Node) → Contains others z → Contains t.leaves z))
      each y read =
          let of = gate_reads (drive_in c.drives t.gate) base y (has_gate t stands) read in
          let here : node_at base y.signal ≡ y = same_node (node_at base y.signal) y refl (sym of.0) in
          let end = behind_latches c.drives base y.signal in
          let leaf : Contains t.leaves end = (table.leaves end).1 (y.signal, of.1, refl) in
          elim (behind_covers c.drives base y.signal) [
            | inl same ↦ inl (subst (λ (z : Node). Contains t.leaves z) (same ∙ here) leaf)
            | inr cover ↦ inr (
              end ∷ [],
              subst (λ (z : Node). Covers c.drives (end ∷ []) z) here cover,
              λ z h. elim (contains-cases end [] z h) [
                | inl is ↦ subst (λ (v : Node). Contains t.leaves v) is leaf
                | inr none ↦ absurd (contains-none z none)
              ],
            )
          ]

      only : (z : Node) → Contains t.leaves z
          → Contains (reads c.drives (node_at base t.gate)) z ⊎ ((y : Node) × Contains (reads c.drives (node_at base t.gate)) y × IsReached c.drives y z)
      only z leaf =
          let (p, pin, is) = (table.leaves z).0 leaf in
          let read = reads_pin (drive_in c.drives t.gate) base p pin in
          elim (behind_covers c.drives base p) [
            | inl same ↦ inl (subst (λ (v : Node). Contains (reads c.drives (node_at base t.gate)) v) (sym same ∙ is) read)
            | inr cover ↦
                let end = behind_latches c.drives base p in
                inr (node_at base p, read, subst (λ (v : Node). IsReached c.drives (node_at base p) v) is (cover.reached end (contains-first end [])))
          ]

  own_covers : (t : Table) → Contains tables t → Covers c.drives t.leaves (root t)
  own_covers t stands =
      let x = node_at base t.gate in
      subst (λ n. Covers c.drives t.leaves (node_at n t.gate)) (sym (own.own t stands).lag)
      (each_replaced c.drives (reads c.drives x) t.leaves x (reads_cover c.drives x (gate_goes_on (drive_in c.drives t.gate) base (has_gate t stands))) (own_replaces t stands))

  own_served : (t : Table) → Contains tables t → AreServed c.drives tables t.leaves
  own_served t stands x leaf = by_drive (drive_in c.drives x.signal) refl
    where
      low : x.advance ≤ base
      low =
          let (p, pin, is) = ((own.own t stands).leaves x).0 leaf in
          let same = ap (λ (n : Node). n.advance) is in
          let ahead = behind_low c.drives base p in
          omega (arith, same, ahead)

      by_drive : (e : Drive) → drive_in c.drives x.signal ≡ e → IsServedOf e c.drives tables x
      by_drive input is = tt
      by_drive (latch next init) is = has_source x.signal 0 (omega arith)
      by_drive (gate pins cover) is = has_table x.signal x.advance (ap is_gate is) low

  own_lawful : IsLawfulFrom base need c k d tables
  own_lawful = record {
    ascending = own.ascending;
    each = λ t stands.
        record {
          gate = has_gate t stands;
          lag = let lag = (own.own t stands).lag in omega (arith, lag, near);
          leaves = own_leaves t stands;
          covers = own_covers t stands;
          served = own_served t stands;
        };
    outputs = λ s stands. has_source s (need s) (needs s stands);
  }

-- ---- its chains are chains of the circuit

-- A leaf as far ahead as the table is a pin.
own_first : (base : ℕ) (drives : List Drive) (tables : List Table) → IsOwnMappingFrom base drives tables → (t u : Table) → Contains tables t → Contains tables u
    → Contains u.leaves (root t) → Contains (pins_of (drive_in drives u.gate)) t.gate
own_first base drives tables own t u first stands leaf =
    let (p, pin, is) = ((own.own u stands).leaves (root t)).0 leaf in
    let ahead : (behind_latches drives base p).advance ≡ base = ap (λ (n : Node). n.advance) is ∙ (own.own t first).lag in
    let same : p ≡ t.gate = ap (λ (n : Node). n.signal) (sym (behind_same drives base p ahead) ∙ is) in
    subst (λ q. Contains (pins_of (drive_in drives u.gate)) q) same pin

own_chain : (base : ℕ) (drives : List Drive) (tables : List Table) → IsOwnMappingFrom base drives tables → (chain : List Table) → IsChain tables chain
    → IsGateChain drives (map (λ (t : Table). t.gate) chain)
own_chain base drives tables own [] chain = tt
own_chain base drives tables own (t ∷ []) chain = ((own.gates t.gate).1 (t, chain.0, refl), tt, tt)
own_chain base drives tables own (t ∷ u ∷ rest) chain =
    ((own.gates t.gate).1 (t, chain.0, refl), own_first base drives tables own t u chain.0 chain.2.0 chain.1, own_chain base drives tables own (u ∷ rest) chain.2)

own_within : (base : ℕ) (c : Plain) (tables : List Table) (p : ℕ) → IsOwnMappingFrom base c.drives tables → IsPeriod c p → HasChainsWithin tables p
own_within base c tables p own period chain is =
    let long = length-map chain (λ (t : Table). t.gate) in
    let short = period.greatest (map (λ (t : Table). t.gate) chain) (own_chain base c.drives tables own chain is) in
    omega (arith, long, short)

-- ---- there is such a mapping

own_table : (base : ℕ) (drives : List Drive) (pins : List ℕ) (g : ℕ) → (t : Table) × (t.gate ≡ g) × IsOwnTableFrom base drives pins t
own_table base drives pins g =
    let end : ℕ → Node = λ p. behind_latches drives base p in
    let made = in_order (map end pins) in (
      record { gate = g; lag = base; leaves = made.0 },
      refl,
      record {
        lag = refl;
        ascending = made.1;
        leaves = λ x. (
          (λ leaf. contains-unmap end pins x ((made.2 x).0 leaf)),
          (λ (p, pin, is). (made.2 x).1 (subst (λ (y : Node). Contains (map end pins) y) is (contains-map end pins p pin))),
        );
      },
    )

-- The tables of the gates below a number.
record HasGatesBelow (base : ℕ) (drives : List Drive) (n : ℕ) (tables : List Table) : Type 0 where
  ascending : AllPairs (λ t u. t.gate < u.gate) tables
  gates : (t : Table) → Contains tables t → IsGate drives t.gate × (t.gate < n)
  all : (g : ℕ) → IsGate drives g → g < n → (t : Table) × Contains tables t × (t.gate ≡ g)
  own : (t : Table) → Contains tables t → IsOwnTableFrom base drives (pins_of (drive_in drives t.gate)) t

no_gates : (base : ℕ) (drives : List Drive) → HasGatesBelow base drives 0 []
no_gates base drives = record { ascending = λ i j e before inside. absurd (omega arith); gates = λ t none. absurd (contains-none t none); all = λ g is low. absurd (omega arith); own = λ t none. absurd (contains-none t none) }

other_more : (base : ℕ) (drives : List Drive) (n : ℕ) (tables : List Table) → HasGatesBelow base drives n tables → (IsGate drives n → ⊥) → HasGatesBelow base drives (suc n) tables
other_more base drives n tables has none = record {
  ascending = has.ascending;
  gates = λ t stands. let is = has.gates t stands in (is.0, let low = is.1 in omega arith);
  all = λ g is low. elim (cases_lt g n) [ inl lower ↦ has.all g is lower | inr high ↦ let e : g ≡ n = omega arith in absurd (none (subst (λ s. IsGate drives s) e is)) ];
  own = has.own;
}

gate_more : (base : ℕ) (drives : List Drive) (n : ℕ) (tables : List Table) (t : Table) → HasGatesBelow base drives n tables → IsGate drives n → t.gate ≡ n
    → IsOwnTableFrom base drives (pins_of (drive_in drives n)) t → HasGatesBelow base drives (suc n) (tables ++ t ∷ [])
gate_more base drives n tables t has is named table = record {
  ascending = pairs-push (λ (x : Table) (y : Table). x.gate < y.gate) tables t has.ascending (λ u stands. let low = (has.gates u stands).1 in omega arith);
  gates = λ u stands. elim (Contains-push_cases tables t u stands) [
    | inl earlier ↦ let of = has.gates u earlier in (of.0, let low = of.1 in omega arith)
    | inr same ↦ subst (λ (v : Table). IsGate drives v.gate × (v.gate < suc n)) same (subst (λ s. IsGate drives s) (sym named) is, omega arith)
  ];
  all = λ g of low. elim (cases_lt g n) [
    | inl lower ↦ let u = has.all g of lower in (u.0, Contains-append_left tables (t ∷ []) u.0 u.1, u.2)
    | inr high ↦ (t, Contains-push tables t, omega arith)
  ];
  own = λ u stands. elim (Contains-push_cases tables t u stands) [
    | inl earlier ↦ has.own u earlier
    | inr same ↦ subst (λ (v : Table). IsOwnTableFrom base drives (pins_of (drive_in drives v.gate)) v) same (subst (λ s. IsOwnTableFrom base drives (pins_of (drive_in drives s)) t) (sym named) table)
  ];
}

gates_below : (base : ℕ) (c : Plain) (n : ℕ) → (tables : List Table) × HasGatesBelow base c.drives n tables
gates_below base c zero = ([], no_gates base c.drives)
gates_below base c (suc n) =
    let less = gates_below base c n in
    by_test (is_gate (drive_in c.drives n)) refl less
  where
    by_test : (b : Bool) → is_gate (drive_in c.drives n) ≡ b → (tables : List Table) × HasGatesBelow base c.drives n tables
        → (tables : List Table) × HasGatesBelow base c.drives (suc n) tables
    by_test false is less = (less.0, other_more base c.drives n less.0 less.1 (λ gate. cc))
    by_test true is less =
        let t = own_table base c.drives (pins_of (drive_in c.drives n)) n in
        (less.0 ++ t.0 ∷ [], gate_more base c.drives n less.0 t.0 less.1 is t.1 t.2)

own_some : (base : ℕ) (c : Plain) → (tables : List Table) × IsOwnMappingFrom base c.drives tables
own_some base c =
    let all = gates_below base c (length c.drives) in
    let has = all.1 in (
      all.0,
      record {
        ascending = has.ascending;
        gates = λ g. (
          (λ is. has.all g is (gate_within c.drives g is)),
          (λ of. subst (λ s. IsGate c.drives s) of.2 (has.gates of.0 of.1).0),
        );
        own = has.own;
      },
    )

pub own_serve_from : (base : ℕ) (need : ℕ → ℕ) (c : Plain) (k d : ℕ) → IsSound c → base ≤ d → NeedAtMost base need c → widest c.drives ≤ k
    → OwnTablesServeFrom base need c k d
own_serve_from base need c k d sound near needs narrow = record {
  some = own_some base c;
  lawful = own_lawful base need c k d sound near needs narrow;
  within = own_within base c;
}

-- ---- at base 0

at_zero : (drives : List Drive) (tables : List Table) → IsOwnMapping drives tables → IsOwnMappingFrom 0 drives tables
at_zero drives tables own = record {
  ascending = own.ascending;
  gates = own.gates;
  own = λ t stands.
      let table = own.own t stands in
      record {
        lag = table.lag;
        ascending = table.ascending;
        leaves = λ x. (
          (λ leaf. let is = (table.leaves x).0 leaf in (x.signal, is.1, same_node (node_at 0 x.signal) x refl (sym is.0))),
          (λ (p, pin, is). subst (λ (y : Node). Contains t.leaves y) is ((table.leaves (node_at 0 p)).1 (refl, pin))),
        );
      };
}

from_zero : (drives : List Drive) (tables : List Table) → IsOwnMappingFrom 0 drives tables → IsOwnMapping drives tables
from_zero drives tables own = record {
  ascending = own.ascending;
  gates = own.gates;
  own = λ t stands.
      let table = own.own t stands in
      let pins = pins_of (drive_in drives t.gate) in
      record {
        lag = table.lag;
        ascending = table.ascending;
        leaves = λ x. (
          (λ leaf. let (p, pin, is) = (table.leaves x).0 leaf in subst (λ (y : Node). (y.advance ≡ 0) × Contains pins y.signal) is (refl, pin)),
          (λ is. (table.leaves x).1 (x.signal, is.1, same_node (node_at 0 x.signal) x refl (sym is.0))),
        );
      };
}

pub own_serve : (c : Plain) (k d : ℕ) → IsSound c → widest c.drives ≤ k → OwnTablesServe c k d
own_serve c k d sound narrow =
    let serve = own_serve_from 0 (λ _. 0) c k d sound (omega arith) (λ s stands. omega arith) narrow in
    record {
      some = (serve.some.0, from_zero c.drives serve.some.0 serve.some.1);
      lawful = λ tables own. serve.lawful tables (at_zero c.drives tables own);
      within = λ tables p own. serve.within tables p (at_zero c.drives tables own);
    }
