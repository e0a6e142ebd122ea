-- The names and the drivers are those of the three lists of parts, one after another.
use Rattle.std.proofs.Common.{arith}
use Rattle.std.proofs.lemmas.Grind.{common_steps}
use Rattle.tm_circuit.proofs.LayoutLemmas.{laid_out}
use Rattle.tm_circuit.proofs.draft.Draft.of.Goals as goal

pub returns-clause-laid_out : goal.returns-clause-laid_out
returns-clause-laid_out c =
    laid_out _ c.args.parts.inputs.items c.args.parts.latches.items c.args.parts.gates.items
    (grind (arith, common_steps, c.in_ok-add_inputs.ensures.names, c.in_ok-add_latches.ensures.names, c.in_ok-add_gates.ensures.names))
    (grind (arith, common_steps, c.in_ok-add_inputs.ensures.drives, c.in_ok-add_latches.ensures.drives, c.in_ok-add_gates.ensures.drives))
    (grind arith) (grind arith)
