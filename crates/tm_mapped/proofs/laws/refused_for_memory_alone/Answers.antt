use Rattle.tm_mapped.proofs.BuildLemmas.{refused_for_memory, short_names}
use Rattle.tm_mapped.proofs.laws.refused_for_memory_alone.Goals as goal

pub returns-clause-build : goal.returns-clause-build
returns-clause-build g c k d tables mapped sound fits narrow near lawful by =
    refused_for_memory c k d tables sound fits narrow near lawful mapped by

pub returns-clause-names : goal.returns-clause-names
returns-clause-names g c k d tables mapped sound fits narrow near lawful by = short_names c k d tables sound fits narrow near lawful mapped by
