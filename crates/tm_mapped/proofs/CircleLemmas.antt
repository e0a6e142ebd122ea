-- Gates of a mapped circuit do not read one another in a circle: along pins the heights of the nodes fall.
use Rattle.std.proofs.Common.{◌≡◌, ℕ, ◌<◌, false, List, [], ◌∷◌, ◌++◌, Option, Some, None, slice_get, refl, ap, subst, arith}
use Rattle.std.specs.Prelude.{Contains}
use Rattle.tm_circuit.specs.Plain.{Plain, Drive, input, latch, drive, pins_of}
use Rattle.tm_circuit.specs.Chain.{IsPin, IsChain, HasCircle}
use Rattle.tm_circuit.specs.Sound.{IsSound}
use Rattle.tm_circuit.proofs.ListLemmas.{contains-none}
use Rattle.tm_unroll.specs.declared.node.Node.{Node}
use Rattle.tm_unroll.specs.Mappings.{Table, root, IsLawful}
use Rattle.tm_unroll.specs.Falls.{height}
use Rattle.tm_unroll.proofs.ReadLemmas.{reached_falls}
use Rattle.tm_mapped.specs.Mapped.{CoverRule, IsTableDrive, IsMappedBy}
use Rattle.tm_mapped.specs.Needed.{nodes_of}
use Rattle.tm_mapped.proofs.ListLemmas.{item-at}
use Rattle.tm_mapped.proofs.DriveLemmas.{IsDriven, as_input, as_kept, as_moved, as_table, as_none, driven_as}

-- The height of a node that there may be.
abbrev height_of : Plain → Option Node → ℕ
height_of c None = 0
height_of c (Some x) = height c x

-- A pin of a signal, with the leaf and the table for which they stand.
pub record IsPinFor (nodes : List Node) (tables : List Table) (p i : ℕ) : Type 0 where
  pub table : Table
  pub leaf : Node
  pub stands : Contains tables table
  pub root_at : slice_get nodes i ≡ Some (root table)
  pub leaf_at : slice_get nodes p ≡ Some leaf
  pub among : Contains table.leaves leaf

no_pin : (p : ℕ) (d e : Drive) → d ≡ e → pins_of e ≡ [] → Contains (pins_of d) p → ⊥
no_pin p d e is none stands = contains-none p (subst (λ ps. Contains ps p) none (subst (λ f. Contains (pins_of f) p) is stands))

module _ (Covers : CoverRule) (c : Plain) (k d : ℕ) (tables : List Table) (mapped : Plain) (sound : IsSound c) (lawful : IsLawful c k d tables)
    (by : IsMappedBy Covers c tables mapped)
  where
    table_pin : (p i : ℕ) (t : Table) → Contains tables t → slice_get (nodes_of c by.registers tables) i ≡ Some (root t)
        → IsTableDrive Covers c (nodes_of c by.registers tables) t (drive mapped i) → Contains (pins_of (drive mapped i)) p → IsPinFor (nodes_of c by.registers tables) tables p i
    table_pin p i t stands at driven pin =
        let own : Contains driven.pins p = subst (λ e. Contains (pins_of e) p) driven.is pin in
        let (leaf, leaf_at, among) = item-at (nodes_of c by.registers tables) driven.pins t.leaves driven.leaves p own in
        record { table = t; leaf = leaf; stands = stands; root_at = at; leaf_at = leaf_at; among = among }

    pin_of_table : (p i : ℕ) → IsDriven Covers c by.registers tables mapped i → IsPin mapped.drives p i → IsPinFor (nodes_of c by.registers tables) tables p i
    pin_of_table p i (as_input low at is) pin = absurd (no_pin p (drive mapped i) input is refl pin)
    pin_of_table p i (as_kept x at kept) pin = absurd (no_pin p (drive mapped i) (latch kept.place kept.init) kept.is refl pin)
    pin_of_table p i (as_moved x at moved) pin = absurd (no_pin p (drive mapped i) (latch moved.place moved.init) moved.is refl pin)
    pin_of_table p i (as_table t stands at driven) pin = table_pin p i t stands at driven pin
    pin_of_table p i (as_none none is) pin = absurd (no_pin p (drive mapped i) (latch i false) is refl pin)

    -- Each pin stands for a leaf of the table for which its gate stands.
    pub pin_for : (p i : ℕ) → IsPin mapped.drives p i → IsPinFor (nodes_of c by.registers tables) tables p i
    pin_for p i pin = pin_of_table p i (driven_as Covers c tables mapped by i) pin

    rank_at : ℕ → ℕ
    rank_at i = height_of c (slice_get (nodes_of c by.registers tables) i)

    pin_lower : (p i : ℕ) → IsPin mapped.drives p i → rank_at p < rank_at i
    unfolding rank_at
    pin_lower p i pin =
        let way = pin_for p i pin in
        let reached = (lawful.each way.table way.stands).covers.reached way.leaf way.among in
        let falls = reached_falls c sound (root way.table) way.leaf reached.0 reached.1 in
        let low = ap (height_of c) way.leaf_at in
        let high = ap (height_of c) way.root_at in
        omega (arith, falls, low, high)

    chain_rises : (a b : ℕ) (through : List ℕ) → IsChain mapped.drives (a ∷ (through ++ b ∷ [])) → rank_at a < rank_at b
    chain_rises a b [] chain = pin_lower a b chain.1
    chain_rises a b (e ∷ through) chain =
        let first = pin_lower a e chain.1 in
        let rest = chain_rises e b through chain.2 in
        omega (arith, first, rest)

    pub no_circle : ¬ HasCircle mapped.drives
    no_circle circle = let up = chain_rises circle.0 circle.0 circle.1.0 circle.1.1 in omega (arith, up)
