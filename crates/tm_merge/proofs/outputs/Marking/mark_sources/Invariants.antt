-- the sources of the signals so far are marked
use Rattle.std.proofs.Common.{take}
use Rattle.tm_merge.specs.Leading.{MarksSources}
use Rattle.tm_merge.proofs.outputs.Marking.mark_sources.Given as goal

abbrev pub invariant-loop-s : goal.invariant-loop-s
invariant-loop-s l = MarksSources l.circuit (take l.s-index l.signals) l.fn.self l.self
