-- The two-way nodes that labels serve, as those that may be cut.
use Rattle.std.specs.Prelude.{ℕ, Bool, true, false, ◌&&◌, ◌||◌, nat_le, ℤ, pos, int_lt, int_le, List, length, Option, None, Some, slice_index_or, is_some}
use Rattle.std.specs.Ordering.{int_eq}
use Rattle.tm_circuit.specs.Plain.{Plain, Drive, input, latch, gate, drive_in}
use Rattle.tm_circuit.specs.declared.sources.Source.{Source}
use Rattle.tm_circuit.specs.declared.sources.Source.TheVariants.{Input, Gate, Ring}
use Rattle.tm_flow.specs.Nets.{Shape}
use Rattle.tm_replay.specs.Served.{source_of}
use Rattle.two_way.specs.declared.answer.TwoNode.{TwoNode}
use Rattle.two_way.specs.Nodes.{floor, reads, is_end}
use Rattle.two_way.specs.Labels.{TwoLabel, label_in}

-- Whether a label serves its gate at an advance within a number: it has more lag, or just so much and an arrival within the number.
abbrev pub label_serves : Option TwoLabel → ℤ → ℕ → Bool
label_serves None advance within = false
label_serves (Some x) advance within = int_lt advance x.lag || (int_eq x.lag advance && nat_le x.arrival within)

-- Whether a source serves the latches that have it: an input and a ring do, and a gate where it has a label.
abbrev pub source_serves : List (Option TwoLabel) → Source → Bool
source_serves labels (Input s) = true
source_serves labels (Gate s) = is_some (label_in labels s)
source_serves labels Ring = true

-- Whether a node is served within a number, by the drive of its signal: an input that is not ahead of the present, a latch at the least
-- advance where its source serves it, and a gate where its label does.
abbrev pub is_served_of : ℕ → Drive → List Drive → List (Option TwoLabel) → ℕ → TwoNode → Bool
is_served_of back input drives labels within x = int_le x.advance (pos 0)
is_served_of back (latch next init) drives labels within x =
    int_eq x.advance (floor back) && source_serves labels (source_of drives x.signal)
is_served_of back (gate pins cover) drives labels within x = label_serves (label_in labels x.signal) x.advance within

-- Whether a node is served within a number.
abbrev pub is_served : ℕ → List Drive → List (Option TwoLabel) → ℕ → TwoNode → Bool
is_served back drives labels within x = is_served_of back (drive_in drives x.signal) drives labels within x

-- The net of two-way nodes in which those that are served within a number may be cut. A barrier does not ask for its ranks.
abbrev pub served : ℕ → Plain → List (Option TwoLabel) → ℕ → Shape TwoNode
served back c labels within = record {
  reads = λ x. length (reads back c.drives x);
  read = λ x i. slice_index_or (reads back c.drives x) i x;
  is_end = is_end back c.drives;
  may_cut = is_served back c.drives labels within;
  rank = λ x. 0;
  bound = 0;
}
