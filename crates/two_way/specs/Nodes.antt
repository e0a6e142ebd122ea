-- Two-way nodes: a signal with an advance that may lie behind the present, by as many steps as registers may move backward.
--
-- In all of these definitions `back` is that number of steps, and an amount that is less than 0 stands for steps behind.
use Rattle.std.specs.Prelude.{◌≡◌, ◌⊎◌, ℕ, ◌<◌, ℤ, pos, neg_ℤ, ◌-ℤ◌, ◌<ℤ◌, int_lt, Bool, true, false, not, List, [], ◌∷◌, map, if◌then◌else◌}
use Rattle.tm_circuit.specs.Plain.{Drive, input, latch, gate, drive_in}
use Rattle.two_way.specs.declared.answer.TwoNode.{TwoNode}

-- The least advance of a node.
abbrev pub floor : ℕ → ℤ
floor back = neg_ℤ (pos back)

-- The node of a signal at an advance.
abbrev pub node_at : ℤ → ℕ → TwoNode
node_at advance signal = record { signal = signal; advance = advance }

-- What a node reads, by the drive of its signal: a gate its pins at the same advance, in order; a latch above the least advance its
-- `next` one advance less; an input, and a latch at the least advance, nothing.
abbrev pub reads_of : ℕ → Drive → ℤ → List TwoNode
reads_of back input advance = []
reads_of back (latch next init) advance = if int_lt (floor back) advance then node_at (advance -ℤ pos 1) next ∷ [] else []
reads_of back (gate pins cover) advance = map (λ p. node_at advance p) pins

-- The nodes that a node reads.
abbrev pub reads : ℕ → List Drive → TwoNode → List TwoNode
reads back drives x = reads_of back (drive_in drives x.signal) x.advance

-- Whether a node is an end, by the drive of its signal: an input at any advance, and a latch at the least advance.
abbrev pub is_end_of : ℕ → Drive → ℤ → Bool
is_end_of back input advance = true
is_end_of back (latch next init) advance = not (int_lt (floor back) advance)
is_end_of back (gate pins cover) advance = false

-- Whether a node is an end.
abbrev pub is_end : ℕ → List Drive → TwoNode → Bool
is_end back drives x = is_end_of back (drive_in drives x.signal) x.advance

-- The order of nodes: by signal, then by advance.
abbrev pub IsBefore : TwoNode → TwoNode → Type 0
IsBefore x y = (x.signal < y.signal) ⊎ ((x.signal ≡ y.signal) × (x.advance <ℤ y.advance))
