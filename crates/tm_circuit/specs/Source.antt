-- The source of a signal, by following latches.
use Rattle.std.specs.Prelude.{◌≡◌, ℕ, zero, suc, List, IsTrue}
use Rattle.tm_circuit.specs.Plain.{Drive, input, latch, gate, drive_in, is_input, is_latch, is_gate}
use Rattle.tm_circuit.specs.declared.sources.Source.{Source}
use Rattle.tm_circuit.specs.declared.sources.Source.TheVariants.{Input, Gate, Ring}

-- Where one step back leads: from a latch to its next; an input and a gate stay.
abbrev pub step_back : ℕ → Drive → ℕ
step_back s input = s
step_back s (latch next init) = next
step_back s (gate pins cover) = s

-- Where so many steps back lead.
abbrev pub back : List Drive → ℕ → ℕ → ℕ
back drives zero s = s
back drives (suc n) s = back drives n (step_back s (drive_in drives s))

-- The source of a signal: the input or the gate that following each latch to its next meets,
-- and `Ring` where only latches are ever met.
abbrev pub IsSource : List Drive → ℕ → Source → Type 0
IsSource drives s (Input e) = IsTrue (is_input (drive_in drives e)) × ((n : ℕ) × (back drives n s ≡ e))
IsSource drives s (Gate e) = IsTrue (is_gate (drive_in drives e)) × ((n : ℕ) × (back drives n s ≡ e))
IsSource drives s Ring = (n : ℕ) → IsTrue (is_latch (drive_in drives (back drives n s)))
