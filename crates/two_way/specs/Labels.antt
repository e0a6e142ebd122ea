-- Labels with amounts from `-back` to `d`: the label next below one, and the labels of all signals at the start of a replay.
use Rattle.std.specs.Prelude.{ℕ, zero, suc, ◌+◌, nat_lt, ℤ, pos, ◌-ℤ◌, int_lt, List, map, Option, None, Some, slice_index_or, if◌then◌else◌}
use Rattle.tm_circuit.specs.Plain.{Drive, input, latch, gate}
use Rattle.two_way.specs.Nodes.{floor}

-- A label: the best that a table of a gate can be, its lag and at that lag its arrival. A greater lag is better, and at the same lag a
-- smaller arrival; to have no label is worst.
pub record TwoLabel : Type 0 where
  pub lag : ℤ
  pub arrival : ℕ

-- The label with this lag and this arrival.
abbrev pub label : ℤ → ℕ → TwoLabel
label lag arrival = record { lag = lag; arrival = arrival }

-- The label of a signal, where it has one: labels stand in a list by the signals.
abbrev pub label_in : List (Option TwoLabel) → ℕ → Option TwoLabel
label_in labels s = slice_index_or labels s None

-- The first label of the lag just below one, where there is a lag below.
abbrev pub below_lag : ℕ → ℤ → Option TwoLabel
below_lag back lag = if int_lt (floor back) lag then Some (label (lag -ℤ pos 1) 1) else None

-- The label next below one, for a target: one arrival later where the target allows it, and otherwise arrival 1 at the lag just below.
abbrev pub next_below : ℕ → ℕ → TwoLabel → Option TwoLabel
next_below back target x = if nat_lt x.arrival target then Some (label x.lag (x.arrival + 1)) else below_lag back x.lag

-- The first label of a drive: a gate has the greatest lag and arrival 1, where the target is not 0, and all else has none.
abbrev pub first_label : ℕ → ℕ → Drive → Option TwoLabel
first_label d target input = None
first_label d target (latch next init) = None
first_label d zero (gate pins cover) = None
first_label d (suc less) (gate pins cover) = Some (label (pos d) 1)

-- The first labels of all signals.
abbrev pub first_labels : List Drive → ℕ → ℕ → List (Option TwoLabel)
first_labels drives d target = map (first_label d target) drives
