-- the sources of the outputs so far are marked
use Rattle.std.proofs.Common.{take}
use Rattle.tm_absorb.proofs.ReaderLemmas.{AreMarksOf}
use Rattle.tm_absorb.proofs.readers.output_marks.Given as goal

abbrev pub invariant-loop-output : goal.invariant-loop-output
invariant-loop-output l = AreMarksOf l.circuit.drives (take l.output-index l.output-items) l.marks.items
