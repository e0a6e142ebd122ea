-- What a `Found` says of the net that was searched.
use Rattle.std.specs.Prelude.{ℕ, map}
use Rattle.tm_flow.specs.Nets.{Shape}
use Rattle.tm_flow.specs.Cuts.{IsCut, IsBarrier}
use Rattle.tm_flow.specs.declared.net.Found.{Found}
use Rattle.tm_flow.specs.declared.net.Found.TheVariants.{Cut, Walks}

-- a cut of at most k nodes, or a barrier against every such cut
abbrev pub IsAnswer : {T : Type 0} → Shape T → T → ℕ → Found T → Type 0
IsAnswer n x k (Cut nodes) = IsCut n x k nodes.items
IsAnswer n x k (Walks walks) = IsBarrier n x k (map (λ w. w.items) walks.items)
