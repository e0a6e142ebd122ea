use Rattle.blif_read.proofs.ShortNames as names
use Rattle.blif_read.proofs.laws.short_names.Goals as goal

pub returns : goal.returns
returns c = names.short_names
