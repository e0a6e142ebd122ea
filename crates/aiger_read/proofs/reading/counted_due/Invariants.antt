use Rattle.std.proofs.Common.{◌≡◌, ◌+◌, ◌<◌, length}
use Rattle.aiger_read.specs.Statements.{statements, defined_in}
use Rattle.aiger_read.specs.Steps.{texts, IsLawfulTo}
use Rattle.aiger_read.proofs.reading.counted_due.Given as goal

-- the lines up to here are read
abbrev pub invariant-loop-taken : goal.invariant-loop-taken
invariant-loop-taken l = record {
  lawful : IsLawfulTo (texts l.lines) (l.taken + 1);
  within : l.taken < length l.lines;
  body : l.body.items ≡ statements l.header (texts l.lines) l.taken;
  variables : l.variables ≡ defined_in (statements l.header (texts l.lines) l.taken);
}
