use Rattle.std.proofs.Common.{◌≡◌, ◌+◌, ◌≤◌, ◌++◌, drop, length}
use Rattle.aiger_read.specs.Names as spelled
use Rattle.aiger_read.specs.Circuit.{latch_drives}
use Rattle.aiger_read.specs.Steps.{maybe_texts}
use Rattle.aiger_read.specs.Making.{latch_names_of, latch_drives_of}
use Rattle.aiger_read.proofs.parts.latches_of.Given as goal

-- the latches up to here are made
abbrev pub invariant-loop-place : goal.invariant-loop-place
invariant-loop-place l = record {
  names : spelled.names_from l.joiner 108 0 (maybe_texts l.names) ≡ latch_names_of l.parts.items ++ spelled.names_from l.joiner 108 l.place (maybe_texts (drop l.place l.names));
  drives : latch_drives l.variables (length l.variables) l.latches ≡ latch_drives_of l.parts.items ++ latch_drives l.variables l.made (drop l.place l.latches);
  few : l.made ≤ length l.variables + l.place;
}
