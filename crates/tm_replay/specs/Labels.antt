-- Labels of gates: their order, the label next below one, the labels of all signals, and what a table is to a label.
use Rattle.std.specs.Prelude.{◌≡◌, ◌⊎◌, ℕ, zero, suc, ◌+◌, ◌<◌, ◌≤◌, nat_lt, List, [], ◌∷◌, ◌++◌, map, length, Option, None, Some, slice_index_or, if◌then◌else◌}
use Rattle.tm_circuit.specs.Plain.{Drive, input, latch, gate}
use Rattle.tm_unroll.specs.Mappings.{Table}
use Rattle.tm_unroll.specs.Chains.{IsChain}
use Rattle.tm_replay.specs.declared.label.Label.{Label}

-- The label with this lag and this arrival.
abbrev pub label : ℕ → ℕ → Label
label lag arrival = record { lag = lag; arrival = arrival }

-- The label of a signal, where it has one: labels stand in a list by the signals.
abbrev pub label_in : List (Option Label) → ℕ → Option Label
label_in labels s = slice_index_or labels s None

-- The order of labels: the first is worse than the second. A greater lag is better; at the same lag a smaller arrival is
-- better; to have no label is worst.
abbrev pub IsWorse : Option Label → Option Label → Type 0
IsWorse None None = ⊥
IsWorse None (Some y) = Unit {0}
IsWorse (Some x) None = ⊥
IsWorse (Some x) (Some y) = (x.lag < y.lag) ⊎ ((x.lag ≡ y.lag) × (y.arrival < x.arrival))

-- The first label of the lag just below one, where there is a lag below.
abbrev pub below_lag : ℕ → Option Label
below_lag zero = None
below_lag (suc less) = Some (label less 1)

-- The label next below one, for a target: one arrival later where the target allows it, and otherwise arrival 1 at the lag
-- just below.
abbrev pub next_below : ℕ → Label → Option Label
next_below target x = if nat_lt x.arrival target then Some (label x.lag (x.arrival + 1)) else below_lag x.lag

-- A label for a target: its lag is at most the greatest lag, and its arrival is from 1 to the target.
pub record IsLabelFor (d target : ℕ) (x : Label) : Type 0 where
  pub lag : x.lag ≤ d
  pub some : 1 ≤ x.arrival
  pub most : x.arrival ≤ target

-- What is next below a label is worse than it, and no label for the target stands between the two.
pub record IsNextBelow (d target : ℕ) (x : Label) (next : Option Label) : Type 0 where
  pub worse : IsWorse next (Some x)
  pub none_between : (y : Label) → IsLabelFor d target y → IsWorse (Some y) (Some x) → IsWorse next (Some y) → ⊥

-- The first label of a drive: a gate has the greatest lag and arrival 1, where the target is not 0, and all else has none.
abbrev pub first_label : ℕ → ℕ → Drive → Option Label
first_label d target input = None
first_label d target (latch next init) = None
first_label d zero (gate pins cover) = None
first_label d (suc less) (gate pins cover) = Some (label d 1)

-- The first labels of all signals.
abbrev pub first_labels : List Drive → ℕ → ℕ → List (Option Label)
first_labels drives d target = map (first_label d target) drives

-- Some chain of the tables that ends in this one has at least so many tables.
abbrev pub ArrivesLate : List Table → Table → ℕ → Type 0
ArrivesLate tables t many = (before : List Table) × IsChain tables (before ++ t ∷ []) × (many ≤ length before + 1)

-- A table is no better than a label, where its own label has its lag, and as its arrival the number of tables on the longest
-- chain that ends in it. It is better than none.
abbrev pub IsNoBetter : List Table → Table → Option Label → Type 0
IsNoBetter tables t None = ⊥
IsNoBetter tables t (Some x) = (t.lag < x.lag) ⊎ ((t.lag ≡ x.lag) × ArrivesLate tables t x.arrival)
