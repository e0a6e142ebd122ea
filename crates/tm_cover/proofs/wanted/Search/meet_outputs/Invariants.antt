-- the source gates of the outputs so far are met
use Rattle.std.proofs.Common.{take}
use Rattle.tm_cover.specs.Wanted.{Meets, IsSourceAmong}
use Rattle.tm_cover.proofs.wanted.Search.meet_outputs.Given as goal

abbrev pub invariant-loop-output : goal.invariant-loop-output
invariant-loop-output l = Meets (IsSourceAmong l.circuit.drives (take l.output-index l.output-items)) l.fn.self l.self
