-- the greatest lag of the tables so far
use Rattle.std.proofs.Common.{◌≤◌, take}
use Rattle.std.specs.Prelude.{All}
use Rattle.tm_unroll.specs.declared.node.Lut.{Lut}
use Rattle.tm_net.proofs.plan.greatest_lag.Given as goal

abbrev pub invariant-loop-lut : goal.invariant-loop-lut
invariant-loop-lut l = record { near : l.greatest ≤ 8; greatest : All (λ (lut : Lut). lut.lag ≤ l.greatest) (take l.lut-index l.luts) }
