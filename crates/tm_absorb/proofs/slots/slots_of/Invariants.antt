-- the tables so far stand in the slots of their gates
use Rattle.tm_absorb.proofs.StartLemmas.{AreSlotsSoFar}
use Rattle.tm_absorb.proofs.slots.slots_of.Given as goal

abbrev pub invariant-loop-lut : goal.invariant-loop-lut
invariant-loop-lut l = AreSlotsSoFar l.luts l.signals l.lut-index l.slots.items
