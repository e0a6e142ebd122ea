use Rattle.std.proofs.Common.{◌≡◌, map, take}
use Rattle.tm_flow.specs.Lists.{Has}
use Rattle.tm_flow.specs.Searches.{Uses}
use Rattle.tm_flow.proofs.used.use_way.Given as goal

abbrev pub invariant-loop-taken : goal.invariant-loop-taken
invariant-loop-taken g l = record {
  nodes : l.met.nodes.keys ≡ l.fn.met.nodes.keys;
  uses : Uses (Has (map (λ t. t.side.node) (take l.taken-index l.way))) l.fn.met.nodes.keys l.fn.met.marks.items l.met.nodes.keys l.met.marks.items;
}
