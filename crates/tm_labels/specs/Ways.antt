-- Steps from gates to others that they lead to, down to an output.
use Rattle.std.specs.Prelude.{◌≡◌, ◌⊎◌, ℕ, ◌-◌, ◌^◌, List, length, Contains, slice_index_or}
use Rattle.tm_circuit.specs.Plain.{Plain, drive, pins_of}
use Rattle.tm_circuit.specs.Source.{IsSource}
use Rattle.tm_circuit.specs.declared.sources.Source.TheVariants.{Gate}

-- The number that stands for no gate.
abbrev pub no_gate : ℕ
no_gate = 2 ^ 32 - 1

-- A gate is the source of some signal of a list.
abbrev pub IsSourceOfSome : Plain → List ℕ → ℕ → Type 0
IsSourceOfSome c signals g = (s : ℕ) × Contains signals s × IsSource c.drives s (Gate g)

-- A step from a gate towards an output: to a gate that reads it, perhaps behind latches, or from the source of an output to itself.
abbrev pub IsStepOn : Plain → ℕ → ℕ → Type 0
IsStepOn c g to = ((to ≡ g) × IsSourceOfSome c c.outputs g) ⊎ IsSourceOfSome c (pins_of (drive c to)) g

-- Where the step from a signal leads; past the end there is none.
abbrev pub step_in : List ℕ → ℕ → ℕ
step_in towards g = slice_index_or towards g no_gate

-- For each signal no gate, or a step from it towards an output.
pub record AreStepsOn (c : Plain) (towards : List ℕ) : Type 0 where
  pub sized : length towards ≡ length c.drives
  pub steps : (g : ℕ) → (step_in towards g ≡ no_gate) ⊎ IsStepOn c g (step_in towards g)
