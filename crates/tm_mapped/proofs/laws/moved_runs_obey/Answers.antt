use Rattle.tm_mapped.proofs.RunLemmas.{moved_run_obeys}
use Rattle.tm_mapped.proofs.laws.moved_runs_obey.Goals as goal

pub returns : goal.returns
returns g c k d tables mapped given t sound lawful by obeys = moved_run_obeys c k d tables mapped sound lawful by given t obeys
