use Rattle.std.proofs.Common.{map, take}
use Rattle.tm_flow.specs.Lists.{Has}
use Rattle.tm_flow.specs.Searches.{Uses}
use Rattle.tm_flow.proofs.used.use_walk.Given as goal

abbrev pub invariant-loop-edge : goal.invariant-loop-edge
invariant-loop-edge g l =
    Uses (Has (map (λ e. e.to) (take l.edge-index l.walk))) l.fn.met.nodes.keys l.fn.met.marks.items l.met.nodes.keys l.met.marks.items
