-- No drop of a replay has a lag above the greatest, and the numbers of lawful tables are low.
use Rattle.std.proofs.Common.{ℕ, zero, suc, ◌+◌, ◌≤◌, inl, inr, Bool, true, false, cond, List, [], ◌∷◌, Option, None, Some, subst, arith}
use Rattle.std.specs.Prelude.{Contains, nat_lt, slice_set}
use Rattle.tm_circuit.specs.Plain.{Plain, Drive, input, latch, gate, drive_in}
use Rattle.tm_circuit.proofs.ListLemmas.{contains-cases, contains-none}
use Rattle.tm_unroll.specs.Mappings.{Table, IsLeafOf, IsLawfulFrom}
use Rattle.tm_replay.specs.declared.label.Label.{Label}
use Rattle.tm_replay.specs.Labels.{label, label_in, below_lag, next_below, first_label, first_labels}
use Rattle.tm_replay.specs.Replays.{Drop, Replays, lowered}
use Rattle.two_way.specs.Amounts.{IsLow}

abbrev lag_of : Option Label → ℕ
lag_of None = 0
lag_of (Some x) = x.lag

abbrev HaveLow : ℕ → List (Option Label) → Type 0
HaveLow most labels = (s : ℕ) → lag_of (label_in labels s) ≤ most

first_lag : (d target : ℕ) (dr : Drive) → lag_of (first_label d target dr) ≤ d
first_lag d target input = omega arith
first_lag d target (latch next init) = omega arith
first_lag d zero (gate pins cover) = omega arith
first_lag d (suc less) (gate pins cover) = omega arith

first_low : (drives : List Drive) (d target : ℕ) → HaveLow d (first_labels drives d target)
first_low [] d target s = omega arith
first_low (dr ∷ drives) d target zero = first_lag d target dr
first_low (dr ∷ drives) d target (suc s) = first_low drives d target s

below_low : (lag : ℕ) → lag_of (below_lag lag) ≤ lag
below_low zero = omega arith
below_low (suc less) = omega arith

next_low : (target lag arrival : ℕ) → lag_of (next_below target (label lag arrival)) ≤ lag
next_low target lag arrival = by_test (nat_lt arrival target)
  where
    by_test : (b : Bool) → lag_of (cond b (Some (label lag (arrival + 1))) (below_lag lag)) ≤ lag
    by_test true = omega arith
    by_test false = below_low lag

set_low : (most : ℕ) (labels : List (Option Label)) (g : ℕ) (v : Option Label) → HaveLow most labels → lag_of v ≤ most → HaveLow most (slice_set labels g v)
set_low most [] g v low is s = omega arith
set_low most (x ∷ labels) zero v low is zero = is
set_low most (x ∷ labels) zero v low is (suc s) = low (suc s)
set_low most (x ∷ labels) (suc g) v low is zero = low 0
set_low most (x ∷ labels) (suc g) v low is (suc s) = set_low most labels g v (λ t. low (suc t)) is s

drops_low : (base : ℕ) (c : Plain) (k target most : ℕ) (drops : List Drop) (labels : List (Option Label)) → HaveLow most labels
    → Replays base c k target labels drops → (drop : Drop) → Contains drops drop → drop.lag ≤ most
drops_low base c k target most [] labels low replays drop stands = absurd (contains-none drop stands)
drops_low base c k target most (first ∷ drops) labels low replays drop stands =
    let order = replays.0.order in
    let least : first.lag ≤ most = subst (λ (x : Option Label). lag_of x ≤ most) order.now (low first.gate) in
    let next = next_low target first.lag first.arrival in
    elim (contains-cases first drops drop stands) [
      | inl is ↦ subst (λ (x : Drop). x.lag ≤ most) is least
      | inr later ↦
          drops_low base c k target most drops (lowered target labels first)
          (set_low most labels first.gate (next_below target (label first.lag first.arrival)) low (omega (arith, least, next))) replays.1 drop later
    ]

pub drop_lags : (base : ℕ) (c : Plain) (k d target : ℕ) (drops : List Drop) → Replays base c k target (first_labels c.drives d target) drops → (drop : Drop)
    → Contains drops drop → drop.lag ≤ d
drop_lags base c k d target drops replays = drops_low base c k target d drops (first_labels c.drives d target) (first_low c.drives d target) replays

leaf_low : (base lag most : ℕ) (dr : Drive) (a : ℕ) → base ≤ most → lag ≤ most → IsLeafOf base dr lag a → a ≤ most
leaf_low base lag most input a near low is = omega (arith, near, is)
leaf_low base lag most (latch next init) a near low is = omega (arith, is)
leaf_low base lag most (gate pins cover) a near low is = omega (arith, low, is)

pub tables_low : (base : ℕ) (need : ℕ → ℕ) (c : Plain) (k d : ℕ) (tables : List Table) → base ≤ d → d ≤ 16 → IsLawfulFrom base need c k d tables → (t : Table)
    → Contains tables t → IsLow t
tables_low base need c k d tables near few lawful t stands =
    let is = lawful.each t stands in
    let lag = is.lag in
    record {
      lag = omega (arith, lag, few);
      leaves = λ x leaf.
          let low = leaf_low base t.lag d (drive_in c.drives x.signal) x.advance near lag (is.leaves.leaves x leaf).kind in
          omega (arith, low, few);
    }
