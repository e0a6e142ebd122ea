-- the outputs so far have the tables that they need
use Rattle.std.proofs.Common.{List, length}
use Rattle.tm_unroll.specs.Mappings.{Table}
use Rattle.tm_unroll.specs.Faults.{AreGivenBelow}
use Rattle.tm_unroll.specs.Lookups.{AreGreatestLags}
use Rattle.tm_unroll.proofs.lawfulness.first_missing.Given as goal

abbrev pub invariant-loop-place : goal.invariant-loop-place
invariant-loop-place l = (tables : List Table) → AreGreatestLags (length l.circuit.drives) tables l.lags → AreGivenBelow (λ _. 0) l.circuit tables l.place
