-- Steps from what the lines of a text say to the parts of a circuit.
use Rattle.std.specs.Prelude.{◌≡◌, ℕ, ◌+◌, ◌^◌, ◌<◌, ◌≤◌, ◌==◌, if◌then◌else◌, List, [], ◌∷◌, Option, map, length, MatchOption}
use Rattle.std.specs.List.{AllByRecursion}
use Rattle.tm_circuit.specs.Plain.{Plain, Drive, latch}
use Rattle.tm_circuit.specs.declared.parts.LatchPart.{LatchPart}
use Rattle.tm_circuit.specs.Chain.{HasCircle}
use Rattle.tm_circuit.specs.Sound.{IsFew, IsInRange, IsWellNamed, IsDistinctlyNamed, HasDistinctOutputs}
use Rattle.aiger_read.specs.declared.fault.AigerKind.TheVariants.{Loop}
use Rattle.aiger_read.specs.declared.sections.Sections.{Sections as Sorted}
use Rattle.aiger_read.specs.declared.header.Header.{Header}
use Rattle.aiger_read.specs.declared.statement.Statement.{Statement}
use Rattle.aiger_read.specs.Statements.{defined_in}
use Rattle.aiger_read.specs.Symbols.{slot_count}
use Rattle.aiger_read.specs.Faults.{Faulty}
use Rattle.aiger_read.specs.Circuit.{Sections, sections_in, variables_of, made_nexts, inputs_in, latches_in, outputs_in, ands_in}
use Rattle.aiger_read.specs.Text.{fault_in_whole}

-- What the lines of each kind say, whatever room its vectors have to spare.
abbrev pub sections_of : Sorted → Sections
sections_of s = record { inputs = s.inputs.items; latches = s.latches.items; outputs = s.outputs.items; ands = s.ands.items }

abbrev pub latch_names_of : List LatchPart → List (List ℕ)
latch_names_of latches = map (λ l. l.name) latches

abbrev pub latch_drives_of : List LatchPart → List Drive
latch_drives_of latches = map (λ l. latch l.next l.init) latches

-- A circuit that is sound unless gates read one another in a circle.
pub record IsLaid (c : Plain) : Type 0 where
  pub few : IsFew c
  pub range : IsInRange c
  pub names : IsWellNamed c
  pub distinct : IsDistinctlyNamed c
  pub outputs : HasDistinctOutputs c

-- ---- what the lines of a text leave

-- how often a number stands in a list
abbrev pub times_in : ℕ → List ℕ → ℕ
times_in m [] = 0
times_in m (v ∷ vs) = (if m == v then 1 else 0) + times_in m vs

-- The counts of a text fit 32 bits.
pub record HasSmallCounts (h : Header) : Type 0 where
  pub inputs : h.inputs ≤ 4294967295
  pub latches : h.latches ≤ 4294967295
  pub outputs : h.outputs ≤ 4294967295
  pub ands : h.ands ≤ 4294967295

-- The variables are defined in the order of the signals, and there are as many lines of each kind as counted.
pub record IsSorted (h : Header) (body : List Statement) : Type 0 where
  pub variables : defined_in body ≡ variables_of (sections_in body)
  pub inputs : length (inputs_in body) ≡ h.inputs
  pub latches : length (latches_in body) ≡ h.latches
  pub outputs : length (outputs_in body) ≡ h.outputs
  pub ands : length (ands_in body) ≡ h.ands

-- What lawful lines say: as many lines of each kind as counted, small variables that are defined once, and names for what may be
-- named.
pub record IsSaid (h : Header) (s : Sections) (names : List (Option (List ℕ))) : Type 0 where
  pub counts : HasSmallCounts h
  pub inputs : length s.inputs ≡ h.inputs
  pub latches : length s.latches ≡ h.latches
  pub outputs : length s.outputs ≡ h.outputs
  pub ands : length s.ands ≡ h.ands
  pub once : (m : ℕ) → times_in m (variables_of s) ≤ 1
  pub small : AllByRecursion (λ v. v < 2 ^ 32) (variables_of s)
  pub sized : length names ≡ slot_count h

-- ---- the circuit, or a fault of the whole

-- How many signals the circuit has.
abbrev pub signal_count : Sections → ℕ
signal_count s = length (variables_of s) + length (made_nexts s.latches) + length s.outputs

-- The circuit has a circle.
abbrev pub IsLoop : Plain → Faulty → Type 0
IsLoop c fault = (fault ≡ (0, Loop)) × HasCircle c.drives

-- The fault of the whole, by its statements and their circuit.
abbrev pub fault_said : ℕ → List Statement → Plain → Option Faulty
fault_said limit body c = fault_in_whole limit body (length c.drives)

abbrev pub IsFaultSaid : ℕ → List Statement → Plain → Faulty → Type 0
IsFaultSaid limit body c fault = MatchOption (fault_said limit body c) (IsLoop c fault) (λ first. fault ≡ first)
