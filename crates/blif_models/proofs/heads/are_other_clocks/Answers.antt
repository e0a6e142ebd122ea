use Rattle.std.proofs.Common.{◌∙◌}
use Rattle.blif_models.proofs.WordLemmas.{differ_from_texts}
use Rattle.blif_models.proofs.heads.are_other_clocks.Goals as goal

pub returns-in-Some : goal.returns-in-Some
returns-in-Some c = rw c.in-Some.is (c.has_other.ensures ∙ differ_from_texts c.in-Some.clock.now c.args.names.now)
