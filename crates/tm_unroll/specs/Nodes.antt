-- Unrolled nodes: a signal with an advance, what a node reads, which nodes are ends, and the order of nodes.
use Rattle.std.specs.Prelude.{◌≡◌, ◌⊎◌, ℕ, zero, suc, ◌<◌, Bool, true, false, List, [], ◌∷◌, map}
use Rattle.tm_circuit.specs.Plain.{Drive, input, latch, gate, drive_in}
use Rattle.tm_unroll.specs.declared.node.Node.{Node}

-- The node of a signal at an advance.
abbrev pub node_at : ℕ → ℕ → Node
node_at advance signal = record { signal = signal; advance = advance }

-- What a node reads, by the drive of its signal: a gate its pins at the same advance, in order; a latch its `next` one
-- advance less, where there is an advance to spend; an input nothing.
abbrev pub reads_of : Drive → ℕ → List Node
reads_of input advance = []
reads_of (latch next init) zero = []
reads_of (latch next init) (suc less) = node_at less next ∷ []
reads_of (gate pins cover) advance = map (λ p. node_at advance p) pins

-- The nodes that a node reads.
abbrev pub reads : List Drive → Node → List Node
reads drives x = reads_of (drive_in drives x.signal) x.advance

-- Whether a node is an end, by the drive of its signal: an input at any advance, and a latch at advance 0. A gate without
-- pins reads nothing and is no end.
abbrev pub is_end_of : Drive → ℕ → Bool
is_end_of input advance = true
is_end_of (latch next init) zero = true
is_end_of (latch next init) (suc less) = false
is_end_of (gate pins cover) advance = false

-- Whether a node is an end.
abbrev pub is_end : List Drive → Node → Bool
is_end drives x = is_end_of (drive_in drives x.signal) x.advance

-- The order of nodes: by signal, then by advance.
abbrev pub IsBefore : Node → Node → Type 0
IsBefore x y = (x.signal < y.signal) ⊎ ((x.signal ≡ y.signal) × (x.advance < y.advance))
