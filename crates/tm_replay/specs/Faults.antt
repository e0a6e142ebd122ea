-- The first drop of a list that is not lawful, and why, in the order in which a drop is tested.
use Rattle.std.specs.Prelude.{◌≡◌, ℕ, suc, ◌-◌, List, take, Option, Some, slice_get, MatchOption}
use Rattle.tm_circuit.specs.Plain.{Plain}
use Rattle.tm_flow.specs.declared.judge.WalkFault.{WalkFault}
use Rattle.tm_flow.specs.declared.judge.WalkFault.TheVariants as walk
use Rattle.tm_flow.specs.Judges.{IsWalkFault}
use Rattle.tm_unroll.specs.Nodes.{node_at}
use Rattle.tm_replay.specs.declared.label.Label.{Label}
use Rattle.tm_replay.specs.declared.fault.DropWhy.{DropWhy}
use Rattle.tm_replay.specs.declared.fault.DropWhy.TheVariants.{Order, TooFew, Path, Shared}
use Rattle.tm_replay.specs.declared.fault.DropFault.{DropFault}
use Rattle.tm_replay.specs.declared.fault.Replayed.{Replayed}
use Rattle.tm_replay.specs.declared.fault.Replayed.TheVariants.{Labels, Fault}
use Rattle.tm_replay.specs.Labels.{first_labels}
use Rattle.tm_replay.specs.Served.{served}
use Rattle.tm_replay.specs.Replays.{Drop, IsInOrder, IsLawfulDrop, Replays, labels_after}

-- The walks of a drop fail to be a barrier in this way, where the nodes that are served before its arrival may be cut.
abbrev pub WalksFail : WalkFault → ℕ → Plain → ℕ → List (Option Label) → Drop → Type 0
WalksFail fault base c k labels drop = IsWalkFault (served base c labels (drop.arrival - 1)) (node_at drop.lag drop.gate) k drop.walks fault

-- The reason of a drop for the fault of its walks.
abbrev pub why_of : WalkFault → DropWhy
why_of walk.TooFew = TooFew
why_of walk.Path = Path
why_of walk.Shared = Shared

-- A drop fails by a test under the labels of its moment, after it has passed those before: it is not in order; the number of
-- its walks is neither 1 nor `k + 1`; one of them is no walk from its gate at its lag to an end; or a node that is served before
-- its arrival stands, after the first node, on two of them, or on the walk where there is one.
abbrev pub FailsBy : DropWhy → ℕ → Plain → ℕ → ℕ → List (Option Label) → Drop → Type 0
FailsBy Order base c k target labels drop = ¬ IsInOrder c.drives target labels drop
FailsBy TooFew base c k target labels drop = IsInOrder c.drives target labels drop × WalksFail walk.TooFew base c k labels drop
FailsBy Path base c k target labels drop = IsInOrder c.drives target labels drop × WalksFail walk.Path base c k labels drop
FailsBy Shared base c k target labels drop = IsInOrder c.drives target labels drop × WalksFail walk.Shared base c k labels drop

-- A drop is judged: none where it is lawful, and otherwise the test by which it fails.
abbrev pub IsJudged : ℕ → Plain → ℕ → ℕ → List (Option Label) → Drop → Option DropWhy → Type 0
IsJudged base c k target labels drop answer =
    MatchOption answer (IsLawfulDrop base c k target labels drop) (λ why. FailsBy why base c k target labels drop)

-- The first drop that is not lawful: those before it replay from the first labels, and it fails under the labels that they
-- lead to. Entries count from 1.
pub record IsFirstFault (base : ℕ) (c : Plain) (k d target : ℕ) (drops : List Drop) (fault : DropFault) : Type 0 where
  pub place : ℕ
  pub drop : Drop
  pub entry : fault.entry ≡ suc place
  pub at : slice_get drops place ≡ Some drop
  pub before : Replays base c k target (first_labels c.drives d target) (take place drops)
  pub fails : FailsBy fault.why base c k target (labels_after target (first_labels c.drives d target) (take place drops)) drop

-- What a list of drops comes to from the first labels: the labels at the end where it replays, and otherwise its first fault.
abbrev pub IsReplayed : ℕ → Plain → ℕ → ℕ → ℕ → List Drop → Replayed → Type 0
IsReplayed base c k d target drops (Labels labels) =
    Replays base c k target (first_labels c.drives d target) drops × (labels.items ≡ labels_after target (first_labels c.drives d target) drops)
IsReplayed base c k d target drops (Fault fault) = IsFirstFault base c k d target drops fault

-- A list of drops has at most one first fault, and none where it replays.
pub record HasOneFault (base : ℕ) (c : Plain) (k d target : ℕ) (drops : List Drop) : Type 0 where
  pub replayed_has_none : (fault : DropFault) → Replays base c k target (first_labels c.drives d target) drops
      → ¬ IsFirstFault base c k d target drops fault
  pub one : (fault other : DropFault) → IsFirstFault base c k d target drops fault → IsFirstFault base c k d target drops other → fault ≡ other
