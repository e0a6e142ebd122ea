use Rattle.tm_mapped.proofs.SameLemmas.{is_same}
use Rattle.tm_mapped.proofs.laws.mapped_is_same.Goals as goal

pub returns : goal.returns
returns g c k d tables mapped sound sound_m lawful by = is_same c k d tables mapped sound sound_m lawful by
