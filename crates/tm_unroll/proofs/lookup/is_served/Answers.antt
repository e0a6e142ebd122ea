-- A latch is served where its source has a table.
use Rattle.std.proofs.Common.{ap, ◌∙◌}
use Rattle.tm_circuit.specs.Plain.{drive_of}
use Rattle.tm_unroll.proofs.LookupLemmas.{served_latch}
use Rattle.tm_unroll.proofs.lookup.is_served.Goals as goal

pub returns-in-Latch : goal.returns-in-Latch
returns-in-Latch c =
    λ tables lags. served_latch c.args.circuit.now.drives tables c.args.leaf _ _ c.has_source_table.result (c.driver.ensures.drive ∙ ap drive_of c.in-Latch.is) (c.has_source_table.ensures tables lags)
