use Rattle.aiger_read.proofs.WholeLemmas as whole
use Rattle.aiger_read.proofs.laws.short_names.Goals as goal

pub returns : goal.returns
returns c = whole.short_names
