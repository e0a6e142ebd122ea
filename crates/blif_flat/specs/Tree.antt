-- The faults of models as a whole, by their numbers.
use Rattle.std.specs.Prelude.{◌≡◌, ℕ, true, false, List, min}
use Rattle.blif_unit.specs.declared.fault.BlifKind.TheVariants.{Recursion, TooDeep}
use Rattle.blif_unit.specs.Fault.{Faulty}
use Rattle.blif_flat.specs.Graph.{HasCircle}
use Rattle.blif_flat.specs.Extent.{goes_deeper, count_under}

-- Models place one another in a circle, or a path under the top is too long.
pub data IsFaultOfGraph (graph : List (List ℕ)) (fault : Faulty) : Type 0 where
  in_circle : fault ≡ (0, Recursion) → HasCircle graph → IsFaultOfGraph graph fault
  deep : fault ≡ (0, TooDeep) → ¬ HasCircle graph → goes_deeper 64 graph 0 ≡ true → IsFaultOfGraph graph fault

-- Neither, and the number of instances under the top, where one more than the limit stands for all that are more.
pub record AreInstances (graph : List (List ℕ)) (n : ℕ) : Type 0 where
  pub ends : ¬ HasCircle graph
  pub shallow : goes_deeper 64 graph 0 ≡ false
  pub count : n ≡ min 67108865 (count_under 64 graph 0)
