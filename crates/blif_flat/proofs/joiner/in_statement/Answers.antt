use Rattle.std.proofs.Common.{◌≡◌, ◌∙◌, ◌++◌, ◌∷◌, [], ap, sym, arith}
use Rattle.tm_parts.specs.Runs.{longest_run}
use Rattle.blif_unit.specs.Fit.{names_told}
use Rattle.blif_unit.specs.Unit.{told_of}
use Rattle.blif_flat.specs.Run.{run_in}
use Rattle.blif_flat.proofs.RunLemmas.{run-append, run-one}
use Rattle.blif_flat.proofs.joiner.in_statement.Goals as goal

pub returns-in-Gate-clause-run : goal.returns-in-Gate-clause-run
returns-in-Gate-clause-run c =
    let pins : c.in_names-in-Gate.result ≡ run_in c.in-Gate.pins.items = c.in_names-in-Gate.ensures.run ∙ ap run_in c.deref-in-Gate.ensures.value in
    let name : c.longest_run.result ≡ longest_run 64 c.in-Gate.name = c.longest_run.ensures.run ∙ ap (longest_run 64) c.bytes.ensures in
    let split = run-append c.in-Gate.pins.items (c.in-Gate.name ∷ []) in
    let one = run-one c.in-Gate.name in
    let whole : c.max.result ≡ run_in (c.in-Gate.pins.items ++ c.in-Gate.name ∷ []) = omega (arith, pins, name, split, one, c.max.ensures) in
    whole ∙ ap (λ s. run_in (names_told (told_of s))) (sym c.in-Gate.is)
