use Rattle.blif_hier.proofs.ShortNames as names
use Rattle.blif_hier.proofs.laws.short_names.Goals as goal

pub returns : goal.returns
returns c = names.short_names
