use Rattle.std.proofs.Common.{◌∙◌, arith}
use Rattle.blif_models.proofs.WordLemmas.{texts-before}
use Rattle.blif_models.proofs.heads.gate.Goals as goal

pub returns-clause-pins : goal.returns-clause-pins
returns-clause-pins c = c.in_ok-names_of.ensures ∙ texts-before _ c.args.further.now (omega arith)
