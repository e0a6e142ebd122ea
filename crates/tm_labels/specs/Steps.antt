-- What becomes of a gate that is visited.
use Rattle.std.specs.Prelude.{◌≡◌, ◌⊎◌, ℕ, ◌-◌, List, [], Contains, Option}
use Rattle.tm_circuit.specs.Plain.{Plain}
use Rattle.tm_unroll.specs.declared.node.Node.{Node}
use Rattle.tm_unroll.specs.Nodes.{node_at}
use Rattle.tm_replay.specs.declared.label.Label.{Label}
use Rattle.tm_replay.specs.Replays.{Drop}
use Rattle.tm_merge.specs.Cuts.{IsCutWithin}
use Rattle.tm_inherit.specs.Refusals.{HasBarrier, IsRefusal}
use Rattle.tm_labels.specs.declared.find.Step.{Step}
use Rattle.tm_labels.specs.declared.find.Step.TheVariants.{Cut, Refused}

-- The walks of each of some drops are a barrier under the labels.
abbrev pub HaveBarriers : ℕ → Plain → ℕ → List (Option Label) → List Drop → Type 0
HaveBarriers base c k labels drops = (drop : Drop) → Contains drops drop → HasBarrier base c k labels drop

-- The walks of one of some drops of a gate at a lag, or none.
abbrev pub AreKnown : List Drop → Node → List (List ℕ) → Type 0
AreKnown drops x walks =
    (walks ≡ []) ⊎ ((drop : Drop) × Contains drops drop × (node_at drop.lag drop.gate ≡ x) × (walks ≡ drop.walks))

-- A cut of a node that is served before the first arrival, or a refusal before that arrival or a later one up to the last.
abbrev pub IsStep : ℕ → Plain → ℕ → List (Option Label) → ℕ → ℕ → Node → Step → Type 0
IsStep base c k labels first last x (Cut leaves) = IsCutWithin base c k labels (first - 1) x leaves.items
IsStep base c k labels first last x (Refused refusal) = IsRefusal base c k labels first last x refusal
