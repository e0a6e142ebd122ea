use Rattle.tm_parts.specs.Names.{HasNamesWithin}
use Rattle.blif_hier.specs.Text as blif
use Rattle.aiger_read.specs.Text as aiger
use Rattle.text_read.specs.Texts.{is_aiger}
use Rattle.text_read.proofs.KindLemmas.{in_each}
use Rattle.text_read.proofs.laws.short_names.Goals as goal

pub returns : goal.returns
returns c limits text circuit room =
    in_each (is_aiger text) (aiger.IsCircuitOf limits text circuit) (blif.IsCircuitOf limits text circuit) (HasNamesWithin limits.name circuit)
    (c.short_names.ensures limits text circuit room) (c.short_names-2.ensures limits text circuit)
