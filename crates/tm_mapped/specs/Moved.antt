-- Runs of a circuit as its mapped circuit sees them.
use Rattle.std.specs.Prelude.{ℕ, ◌+◌, Bool, false, List, Option, Some, None, slice_get}
use Rattle.tm_unroll.specs.declared.node.Node.{Node}

-- The bit of a node at a step: its signal's, as many steps later as the node is ahead. What is no node has bit 0.
abbrev pub bit_ahead : (ℕ → ℕ → Bool) → ℕ → Option Node → Bool
bit_ahead t step None = false
bit_ahead t step (Some x) = t x.signal (step + x.advance)

-- A table of bits of the circuit, read by the signals of the mapped circuit: each has the bit of the node for which it stands.
abbrev pub moved : List Node → (ℕ → ℕ → Bool) → ℕ → ℕ → Bool
moved nodes t i step = bit_ahead t step (slice_get nodes i)
