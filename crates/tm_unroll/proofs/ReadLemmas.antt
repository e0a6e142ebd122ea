-- What falls along reads, and what follows: walks are short, and what holds of a node where it holds of all that the node
-- reads holds of every node.
use Rattle.std.proofs.Common.{◌≡◌, ℕ, zero, suc, ◌+◌, ◌*◌, ◌<◌, ◌≤◌, ◌⊎◌, inl, inr, true, List, [], ◌∷◌, length, sym, ap, subst, arith}
use Rattle.std.proofs.Math.Nat.{mul-le-mul_right}
use Rattle.std.specs.Prelude.{Contains}
use Rattle.tm_circuit.specs.Plain.{Plain, Drive, input, latch, gate, drive_in, gate_count, is_gate, pins_of}
use Rattle.tm_circuit.specs.Chain.{RisesTo, rank}
use Rattle.tm_circuit.specs.Sound.{IsSound}
use Rattle.tm_circuit.proofs.ListLemmas.{contains-cases, contains-none, contains-map, contains-unmap}
use Rattle.tm_unroll.specs.declared.node.Node.{Node}
use Rattle.tm_unroll.specs.Nodes.{node_at, reads_of, reads}
use Rattle.tm_unroll.specs.Walks.{IsWalk, LeadsTo}
use Rattle.tm_unroll.specs.Falls.{IsLower, height, WalksFall}

-- A node is known by its parts.
pub same_node : (x y : Node) → x.signal ≡ y.signal → x.advance ≡ y.advance → x ≡ y
same_node x y signal advance = λ i. record { signal = signal i; advance = advance i }

-- What a gate's drive reads: its pins, at the same advance.
pub gate_reads : (d : Drive) (a : ℕ) (y : Node) → is_gate d ≡ true → Contains (reads_of d a) y → (y.advance ≡ a) × Contains (pins_of d) y.signal
gate_reads input a y is read = cc
gate_reads (latch next init) a y is read = cc
gate_reads (gate pins cover) a y is read =
    let from = contains-unmap (λ p. node_at a p) pins y read in
    (ap (λ (n : Node). n.advance) (sym from.2), subst (λ (n : Node). Contains pins n.signal) from.2 from.1)

-- A gate's drive reads each of its pins, at the same advance.
pub reads_pin : (d : Drive) (a p : ℕ) → Contains (pins_of d) p → Contains (reads_of d a) (node_at a p)
reads_pin input a p stands = absurd (contains-none p stands)
reads_pin (latch next init) a p stands = absurd (contains-none p stands)
reads_pin (gate pins cover) a p stands = contains-map (λ q. node_at a q) pins p stands

-- Along reads the pair of advance and rank becomes lower.
pub falls_lem : (c : Plain) → IsSound c → (x y : Node) → Contains (reads c.drives x) y → IsLower c y x
falls_lem c sound x y read = by_drive (drive_in c.drives x.signal) (sound.ranked.rises x.signal) x.advance read
  where
    by_drive : (d : Drive) → RisesTo (rank c) x.signal d → (a : ℕ) → Contains (reads_of d a) y → (y.advance < a) ⊎ ((y.advance ≡ a) × (rank c y.signal < rank c x.signal))
    by_drive input rises a r = absurd (contains-none y r)
    by_drive (latch next init) rises zero r = absurd (contains-none y r)
    by_drive (latch next init) rises (suc less) r =
        elim (contains-cases (node_at less next) [] y r) [
          | inl is ↦ inl (let same : less ≡ y.advance = ap (λ (n : Node). n.advance) is in omega arith)
          | inr none ↦ absurd (contains-none y none)
        ]
    by_drive (gate pins cover) rises a r =
        let from = contains-unmap (λ p. node_at a p) pins y r in
        inr (ap (λ (n : Node). n.advance) (sym from.2), subst (λ (n : Node). rank c n.signal < rank c x.signal) from.2 (rises from.0 from.1))

-- The height falls along reads.
pub height_falls : (c : Plain) → IsSound c → (x y : Node) → Contains (reads c.drives x) y → height c y < height c x
height_falls c sound x y read =
    elim (falls_lem c sound x y read) [
      | inl less ↦ less_high y.advance x.advance (gate_count c.drives) (rank c y.signal) (rank c x.signal) less (sound.bounded y.signal)
      | inr same ↦ let e = ap (λ n. n * suc (gate_count c.drives)) same.0 in let l = same.1 in omega (arith, e, l)
    ]
  where
    less_high : (a b g r s : ℕ) → a < b → r ≤ g → a * suc g + r < b * suc g + s
    less_high a b g r s less low = let product = mul-le-mul_right (suc g) less in omega (arith, product, low)

-- A walk has at most as many steps as its first node is high.
pub walk_short : (c : Plain) → IsSound c → (x : Node) (walk : List Node) → IsWalk c.drives x walk → length walk ≤ height c x
walk_short c sound x [] is = omega arith
walk_short c sound x (y ∷ rest) is =
    let ih = walk_short c sound y rest is.1 in
    let falls = height_falls c sound x y is.0 in
    omega (arith, ih, falls)

pub walks_fall : (c : Plain) → IsSound c → WalksFall c
walks_fall c sound = record { falls = falls_lem c sound; short = walk_short c sound }

-- What is reached from a node is lower than it.
pub reached_falls : (c : Plain) → IsSound c → (x y : Node) (through : List Node) → LeadsTo c.drives x through y → height c y < height c x
reached_falls c sound x y [] leads = height_falls c sound x y leads
reached_falls c sound x y (z ∷ through) leads =
    let ih = reached_falls c sound z y through leads.1 in
    let falls = height_falls c sound x z leads.0 in
    omega (arith, ih, falls)

-- Induction over what a node reads: what holds of each node where it holds of all that the node reads holds of all nodes.
pub by_reads : (c : Plain) → IsSound c → (P : Node → Type 0) → ((x : Node) → ((y : Node) → Contains (reads c.drives x) y → P y) → P x) → (x : Node) → P x
by_reads c sound P step x = within (suc (height c x)) x (omega arith)
  where
    within : (fuel : ℕ) (z : Node) → height c z < fuel → P z
    within zero z high = absurd (omega arith)
    within (suc fuel) z high = step z (λ y read. within fuel y (let falls = height_falls c sound z y read in omega (arith, falls, high)))
