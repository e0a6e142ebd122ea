use Rattle.std.proofs.Common.{◌≡◌, ◌+◌, ◌≤◌, length, drop}
use Rattle.aiger_read.specs.Circuit.{made_nexts}
use Rattle.aiger_read.proofs.parts.made_count.Given as goal

-- the latches up to here are counted
abbrev pub invariant-loop-latch : goal.invariant-loop-latch
invariant-loop-latch l = record {
  count : length (made_nexts l.latches) ≡ l.count + length (made_nexts (drop l.latch-index l.latches));
  few : l.count ≤ l.latch-index;
}
