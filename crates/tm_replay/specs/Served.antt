-- The nodes that labels serve, as the nodes of the unrolled net that may be cut.
--
-- The definitions have a base, which is the advance that stands for the present: an input is served up to it. With base 0
-- they are those of mappings that move registers forward alone.
use Rattle.std.specs.Prelude.{ℕ, Bool, true, false, ◌&&◌, ◌||◌, nat_lt, nat_le, nat_eq, List, length, Option, None, Some, is_some}
use Rattle.tm_circuit.specs.Plain.{Plain, Drive, input, latch, gate, drive_in}
use Rattle.tm_circuit.specs.Source.{back}
use Rattle.tm_circuit.specs.Follow.{first_source_of}
use Rattle.tm_circuit.specs.declared.sources.Source.{Source}
use Rattle.tm_circuit.specs.declared.sources.Source.TheVariants.{Input, Gate, Ring}
use Rattle.tm_flow.specs.Nets.{Shape}
use Rattle.tm_unroll.specs.declared.node.Node.{Node}
use Rattle.tm_unroll.specs.Unrolled.{unrolled}
use Rattle.tm_replay.specs.declared.label.Label.{Label}
use Rattle.tm_replay.specs.Labels.{label_in}

-- The source of a signal, by where as many steps back as there are signals lead. Of a sound circuit this is the one source
-- that the signal has.
abbrev pub source_of : List Drive → ℕ → Source
source_of drives s = first_source_of (back drives (length drives) s) (drive_in drives (back drives (length drives) s))

-- Whether a gate's label serves its gate at an advance within a number: the label has more lag than the advance, or just so
-- much and an arrival within the number.
abbrev pub label_serves : Option Label → ℕ → ℕ → Bool
label_serves None advance within = false
label_serves (Some x) advance within = nat_lt advance x.lag || (nat_eq x.lag advance && nat_le x.arrival within)

-- Whether a source serves the latches that have it: an input and a ring do, and a gate where it has a label.
abbrev pub source_serves : List (Option Label) → Source → Bool
source_serves labels (Input s) = true
source_serves labels (Gate s) = is_some (label_in labels s)
source_serves labels Ring = true

-- Whether a node is served within a number, by the drive of its signal: an input at most at the base, a latch at advance 0
-- where its source serves it, and a gate where its label does.
abbrev pub is_served_of : ℕ → Drive → List Drive → List (Option Label) → ℕ → Node → Bool
is_served_of base input drives labels within x = nat_le x.advance base
is_served_of base (latch next init) drives labels within x = nat_eq x.advance 0 && source_serves labels (source_of drives x.signal)
is_served_of base (gate pins cover) drives labels within x = label_serves (label_in labels x.signal) x.advance within

-- Whether a node is served within a number.
abbrev pub is_served : ℕ → List Drive → List (Option Label) → ℕ → Node → Bool
is_served base drives labels within x = is_served_of base (drive_in drives x.signal) drives labels within x

-- The greatest advance of the nodes of the net, which is the greatest that a node in code can have. No read has a greater
-- advance than its reader, so that from a node up to it every walk stays in the net.
abbrev pub most_advance : ℕ
most_advance = 255

-- The unrolled net of a circuit, whatever may be cut.
abbrev pub net : Plain → Shape Node
net c = unrolled most_advance c (λ x. false)

-- The unrolled net of a circuit in which the nodes that are served within a number may be cut.
abbrev pub served : ℕ → Plain → List (Option Label) → ℕ → Shape Node
served base c labels within = unrolled most_advance c (λ x. is_served base c.drives labels within x)
