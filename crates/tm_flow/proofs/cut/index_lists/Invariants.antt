use Rattle.std.proofs.Common.{◌≡◌, map, take}
use Rattle.tm_flow.specs.Flows.{indices_of}
use Rattle.tm_flow.proofs.cut.index_lists.Given as goal

abbrev pub invariant-loop-walk : goal.invariant-loop-walk
invariant-loop-walk g l = map (λ w. w.items) l.lists.items ≡ map indices_of (map (λ w. w.items) (take l.walk-index l.walks))
