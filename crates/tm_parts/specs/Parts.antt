-- The parts of a circuit to be, as they grow from a frame, signal by signal.
use Rattle.std.specs.Prelude.{◌≡◌, ℕ, ◌+◌, ◌≤◌, ◌⊎◌, List, [], ◌∷◌, ◌++◌, map, Err}
use Rattle.tm_circuit.specs.declared.parts.Parts.{Parts}
use Rattle.tm_circuit.specs.declared.parts.GatePart.{GatePart}
use Rattle.tm_circuit.specs.declared.circuit.CircuitFault.{CircuitFault}
use Rattle.tm_circuit.specs.declared.circuit.CircuitFault.TheVariants.{NoMemory}
use Rattle.tm_circuit.specs.Plain.{Plain, Drive, input, latch, gate, input_count, latch_count}
use Rattle.tm_circuit.specs.Build.{circuit_of, IsBuilt}

-- The parts have the circuit's model and clock, and these outputs.
pub record HasFrame (c : Plain) (ends : List ℕ) (parts : Parts) : Type 0 where
  pub model : parts.model ≡ c.model
  pub clock : parts.clock ≡ c.clock
  pub outputs : parts.outputs.items ≡ ends

-- The parts have no signals.
pub record HasNoSignals (parts : Parts) : Type 0 where
  pub inputs : parts.inputs.items ≡ []
  pub latches : parts.latches.items ≡ []
  pub gates : parts.gates.items ≡ []

-- All but the signals stays.
pub record KeepsFrame (old new : Parts) : Type 0 where
  pub model : new.model ≡ old.model
  pub clock : new.clock ≡ old.clock
  pub outputs : new.outputs.items ≡ old.outputs.items

-- The names and the drives of gates to be.
abbrev pub part_names : List GatePart → List (List ℕ)
part_names gates = map (λ g. g.name) gates

abbrev pub part_drive : GatePart → Drive
part_drive g = gate g.pins.items g.cover

abbrev pub part_drives : List GatePart → List Drive
part_drives gates = map part_drive gates

-- The parts have gained gates of these names and these drives at the end of the gates.
pub record GainsGates (old new : Parts) (more_names : List (List ℕ)) (more_drives : List Drive) : Type 0 where
  pub inputs : new.inputs.items ≡ old.inputs.items
  pub latches : new.latches.items ≡ old.latches.items
  pub names : part_names new.gates.items ≡ part_names old.gates.items ++ more_names
  pub drives : part_drives new.gates.items ≡ part_drives old.gates.items ++ more_drives

-- The parts have gained one signal of this name and this drive at the end of its kind.
abbrev pub Gains : Parts → Parts → List ℕ → Drive → Type 0
Gains old new name input =
    (new.inputs.items ≡ old.inputs.items ++ name ∷ [])
    × (new.latches.items ≡ old.latches.items)
    × (new.gates.items ≡ old.gates.items)
Gains old new name (latch next init) =
    (new.inputs.items ≡ old.inputs.items)
    × (new.latches.items ≡ old.latches.items ++ record { name = name; next = next; init = init } ∷ [])
    × (new.gates.items ≡ old.gates.items)
Gains old new name (gate pins cover) = GainsGates old new (name ∷ []) (gate pins cover ∷ [])

-- The parts have what stands in the places of the first signals of a circuit, so many: these names and these drives.
-- Latches come after its inputs, and gates after its latches.
pub record HasFirstSignals (c : Plain) (so_far_names : List (List ℕ)) (so_far_drives : List Drive) (parts : Parts) (s : ℕ) : Type 0 where
  pub names : (circuit_of parts).names ≡ so_far_names
  pub drives : (circuit_of parts).drives ≡ so_far_drives
  pub latches : (parts.latches.items ≡ []) ⊎ (input_count c.drives ≤ s)
  pub gates : (parts.gates.items ≡ []) ⊎ (input_count c.drives + latch_count c.drives ≤ s)

-- The circuit is refused for no reason but want of memory.
abbrev pub IsRefusedForMemory : Plain → Type 0
IsRefusedForMemory c = (fault : CircuitFault) → IsBuilt c (Err fault) → fault ≡ NoMemory
