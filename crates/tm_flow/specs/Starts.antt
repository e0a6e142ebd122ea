-- What the searches of a root start from.
use Rattle.std.specs.Prelude.{◌≡◌, ℕ, ◌+◌, ◌≤◌, Bool, false, List, length, All}
use Rattle.tm_flow.specs.Lists.{lists_in}
use Rattle.tm_flow.specs.Nets.{Shape}
use Rattle.tm_flow.specs.Flows.{Leads, IsFlow}
use Rattle.tm_flow.specs.Searches.{IsKnown}
use Rattle.tm_flow.specs.declared.flow.Edge.{Edge}
use Rattle.tm_flow.specs.declared.known.Start.{Start}
use Rattle.tm_flow.specs.declared.known.Start.TheVariants.{Free, Flow}
use Rattle.tm_flow.specs.declared.search.Marks.{Marks}

-- at most k + 1 walks of a flow, whose nodes are known
pub record IsBegun {T : Type 0} (n : Shape T) (eq : T → T → Bool) (root : T) (k : ℕ) (nodes : List T) (marks : List Marks) (ws : List (List (Edge T))) : Type 0 where
  pub flow : IsFlow n eq root ws
  pub few : length ws ≤ k + 1
  pub known : IsKnown n root ws nodes marks

-- a walk with no node that may be cut, or such walks of a flow
abbrev pub IsStart : {T : Type 0} → Shape T → (T → T → Bool) → T → ℕ → List T → List Marks → Start T → Type 0
IsStart n eq root k nodes marks (Free walk) = Leads n root walk.items × All (λ e. n.may_cut e.to ≡ false) walk.items
IsStart n eq root k nodes marks (Flow walks) = IsBegun n eq root k nodes marks (lists_in walks.items)
