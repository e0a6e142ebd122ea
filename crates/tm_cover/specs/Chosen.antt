-- The tables that a settling gives: those of the gates that are wanted, each with the lag of its label and its cut as leaves.
use Rattle.std.specs.Prelude.{◌≡◌, ◌<◌, ℕ, List, Contains, AllPairs, Some}
use Rattle.tm_circuit.specs.Plain.{Plain}
use Rattle.tm_circuit.specs.Source.{IsSource}
use Rattle.tm_circuit.specs.declared.sources.Source.TheVariants.{Gate}
use Rattle.tm_unroll.specs.declared.node.Node.{Node}
use Rattle.tm_unroll.specs.Mappings.{Table}
use Rattle.tm_replay.specs.declared.label.Label.{Label}
use Rattle.tm_replay.specs.Labels.{label_in}
use Rattle.tm_merge.specs.Cuts.{cut_in}
use Rattle.tm_labels.specs.Settled.{Settling}

-- The gates that are wanted, as the least set that has the source of each output, where it is a gate, and the source of each leaf of
-- the cut of a wanted gate, where it is a gate. The source of a gate is the gate itself.
pub data IsWanted (c : Plain) (cuts : List (List Node)) : ℕ → Type 0 where
  of_output : (o g : ℕ) → Contains c.outputs o → IsSource c.drives o (Gate g) → IsWanted c cuts g
  of_leaf : (g h : ℕ) (x : Node) → IsWanted c cuts g → Contains (cut_in cuts g) x → IsSource c.drives x.signal (Gate h) → IsWanted c cuts h

-- A table of a gate at the gate's label: it has its lag, and the gate's cut as leaves.
pub record IsTableAt (s : Settling) (t : Table) : Type 0 where
  pub label : Label
  pub now : label_in s.labels t.gate ≡ Some label
  pub lag : t.lag ≡ label.lag
  pub leaves : t.leaves ≡ cut_in s.cuts t.gate

-- The tables of just the wanted gates, in ascending order.
pub record AreChosen (c : Plain) (s : Settling) (tables : List Table) : Type 0 where
  pub ascending : AllPairs (λ t u. t.gate < u.gate) tables
  pub each : (t : Table) → Contains tables t → IsTableAt s t × IsWanted c s.cuts t.gate
  pub all : (g : ℕ) → IsWanted c s.cuts g → (t : Table) × Contains tables t × (t.gate ≡ g)
