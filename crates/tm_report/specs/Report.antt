-- The report of a circuit: its size, its period, the first of its longest chains, and the slack of each gate.
use Rattle.std.specs.Prelude.{◌≡◌, ℕ, ◌+◌, ◌<◌, ◌≤◌, ◌⊎◌, List, [], ◌∷◌, ◌++◌, map, length, filter, codes, Contains, slice_index_or}
use Rattle.std.specs.List.{flat_map, range_with_len}
use Rattle.std.specs.Fmt.{decimal}
use Rattle.tm_circuit.specs.Plain.{Plain, Drive, drive_in, is_gate, input_count, latch_count, gate_count, widest}
use Rattle.tm_circuit.specs.Chain.{IsGate, IsChain, IsPeriod}

-- A longest chain: no list of gates in which each is a pin of the next is longer.
pub record IsLongest (c : Plain) (chain : List ℕ) : Type 0 where
  pub linked : IsChain c.drives chain
  pub greatest : (other : List ℕ) → IsChain c.drives other → length other ≤ length chain

-- Place by place, a list is the same as another one up to its end, or has the smaller number where they first differ.
abbrev pub IsNotAfter : List ℕ → List ℕ → Type 0
IsNotAfter [] ys = Unit {0}
IsNotAfter (x ∷ xs) [] = ⊥
IsNotAfter (x ∷ xs) (y ∷ ys) = (x < y) ⊎ ((x ≡ y) × IsNotAfter xs ys)

-- The first longest chain: the least of all, place by place.
pub record IsFirstLongest (c : Plain) (chain : List ℕ) : Type 0 where
  pub longest : IsLongest c chain
  pub least : (other : List ℕ) → IsLongest c other → IsNotAfter chain other

-- The slack of a gate: the period less the greatest length of a chain that has the gate in it.
pub record IsSlack (c : Plain) (period gate slack : ℕ) : Type 0 where
  pub reached : (chain : List ℕ) × IsChain c.drives chain × Contains chain gate × (length chain + slack ≡ period)
  pub greatest : (chain : List ℕ) → IsChain c.drives chain → Contains chain gate → length chain + slack ≤ period

-- The gates, in the order of their numbers.
abbrev pub gates_of : List Drive → List ℕ
gates_of drives = filter (λ s. is_gate (drive_in drives s)) (range_with_len 0 (length drives))

-- The name of a signal.
abbrev pub name_of : Plain → ℕ → List ℕ
name_of c s = slice_index_or c.names s []

-- A word behind a blank.
abbrev pub behind_blank : List ℕ → List ℕ
behind_blank word = 32 ∷ word

-- The lines of a report, each without its LF.
abbrev pub model_line : Plain → List ℕ
model_line c = codes "model " ++ c.model

abbrev pub counts_line : Plain → List ℕ
counts_line c = codes "inputs " ++ decimal (input_count c.drives) ++ codes " outputs " ++ decimal (length c.outputs)
    ++ codes " latches " ++ decimal (latch_count c.drives) ++ codes " gates " ++ decimal (gate_count c.drives)

abbrev pub widest_line : Plain → List ℕ
widest_line c = codes "widest " ++ decimal (widest c.drives)

abbrev pub period_line : ℕ → List ℕ
period_line period = codes "period " ++ decimal period

abbrev pub chain_line : Plain → List ℕ → List ℕ
chain_line c chain = codes "chain" ++ flat_map behind_blank (map (name_of c) chain)

abbrev pub slack_line : Plain → ℕ → ℕ → List ℕ
slack_line c gate slack = codes "slack " ++ name_of c gate ++ codes " " ++ decimal slack

-- All lines, in order, of a circuit with this period, chain and slack of each gate.
abbrev pub lines_of : Plain → ℕ → List ℕ → (ℕ → ℕ) → List (List ℕ)
lines_of c period chain slack =
    model_line c ∷ counts_line c ∷ widest_line c ∷ period_line period ∷ chain_line c chain
    ∷ map (λ g. slack_line c g (slack g)) (gates_of c.drives)

-- The report: the lines for the period, the first longest chain and the slacks.
pub record IsReport (c : Plain) (lines : List (List ℕ)) : Type 0 where
  pub period : ℕ
  pub chain : List ℕ
  pub slack : ℕ → ℕ
  pub is_period : IsPeriod c period
  pub is_first : IsFirstLongest c chain
  pub are_slacks : (g : ℕ) → IsGate c.drives g → IsSlack c period g (slack g)
  pub spelled : lines ≡ lines_of c period chain slack
