-- How a list of nodes grows, and its order by height.
use Rattle.std.specs.Prelude.{◌≡◌, ◌≢◌, ℕ, ◌≤◌, List, ◌++◌, Some, slice_get, AllPairs, Contains}
use Rattle.tm_circuit.specs.Plain.{Plain}
use Rattle.tm_unroll.specs.declared.node.Node.{Node}
use Rattle.tm_unroll.specs.Falls.{height}

-- Some nodes were met: those that were not there stand at the end of the list, each once.
pub record Meets (nodes old new : List Node) : Type 0 where
  pub more : List Node
  pub is : new ≡ old ++ more
  pub from : (x : Node) → Contains more x → Contains nodes x
  pub met : (x : Node) → Contains nodes x → Contains new x
  pub apart : AllPairs (λ a b. a ≢ b) old → AllPairs (λ a b. a ≢ b) new

-- No node is higher than a later one.
pub record AscendInHeight (c : Plain) (nodes : List Node) : Type 0 where
  pub each : (i j : ℕ) (x y : Node) → i ≤ j → slice_get nodes i ≡ Some x → slice_get nodes j ≡ Some y → height c x ≤ height c y
