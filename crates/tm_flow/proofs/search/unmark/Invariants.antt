use Rattle.std.proofs.Common.{◌≡◌, ◌++◌, map, take, drop}
use Rattle.tm_flow.specs.Searches.{unmet}
use Rattle.tm_flow.proofs.search.unmark.Given as goal

abbrev pub invariant-loop-marks : goal.invariant-loop-marks
invariant-loop-marks g l = l.marks-items ≡ map unmet (take l.marks-index l.fn.met.marks.items) ++ drop l.marks-index l.fn.met.marks.items
