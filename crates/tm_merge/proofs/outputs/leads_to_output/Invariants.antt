-- the sources of the outputs are marked, and of the pins of the finds so far
use Rattle.std.proofs.Common.{◌-◌, length}
use Rattle.tm_merge.proofs.LeadingLemmas.{IsLeading}
use Rattle.tm_merge.proofs.outputs.leads_to_output.Given as goal

abbrev pub invariant-loop-place : goal.invariant-loop-place
invariant-loop-place l = IsLeading l.circuit l.place l.marking

abbrev pub decreases-loop-place : goal.decreases-loop-place
decreases-loop-place l = length l.circuit.drives - l.place
