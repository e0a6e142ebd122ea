use Rattle.std.proofs.Common.{◌≡◌, take}
use Rattle.tm_sim.specs.Vectors.{text_of}
use Rattle.tm_sim.proofs.vectors.write.Given as goal

-- the lines of the rows up to here are there
abbrev pub invariant-loop-step : goal.invariant-loop-step
invariant-loop-step l = l.text.items ≡ text_of (take l.step l.vectors.rows)
