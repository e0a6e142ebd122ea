-- The unrolled net of a circuit: its nodes up to a greatest advance as a net that is asked node by node, with any choice of
-- the nodes that may be cut. What names no node of the net reads nothing, is no end and may not be cut.
use Rattle.std.specs.Prelude.{ℕ, suc, ◌*◌, Bool, ◌&&◌, nat_lt, nat_le, length, slice_index_or, if◌then◌else◌}
use Rattle.tm_circuit.specs.Plain.{Plain, gate_count}
use Rattle.tm_flow.specs.Nets.{Shape}
use Rattle.tm_unroll.specs.declared.node.Node.{Node}
use Rattle.tm_unroll.specs.Nodes.{reads, is_end}
use Rattle.tm_unroll.specs.Falls.{height}

-- Whether a value names a node of the net: its signal is one of the circuit, and its advance is at most the greatest.
abbrev pub is_node : ℕ → Plain → Node → Bool
is_node most c x = nat_lt x.signal (length c.drives) && nat_le x.advance most

-- The unrolled net of a circuit up to a greatest advance.
abbrev pub unrolled : ℕ → Plain → (Node → Bool) → Shape Node
unrolled most c may_cut = record {
  reads = λ x. if is_node most c x then length (reads c.drives x) else 0;
  read = λ x i. slice_index_or (reads c.drives x) i x;
  is_end = λ x. is_node most c x && is_end c.drives x;
  may_cut = λ x. is_node most c x && may_cut x;
  rank = λ x. if is_node most c x then height c x else 0;
  bound = suc most * suc (gate_count c.drives);
}
