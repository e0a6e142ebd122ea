use Rattle.tm_mapped.proofs.ValueLemmas.{single_by_values}
use Rattle.tm_mapped.proofs.laws.single_rows_have_values.Goals as goal

pub returns : goal.returns
returns g = single_by_values
