-- the name, and the number behind a blank
use Rattle.std.proofs.Common.{◌≡◌, [], arith, append_assoc}
use Rattle.std.proofs.lemmas.Grind.{common_steps}
use Rattle.std.proofs.lemmas.Option.{get_or_from_slice_get}
use Rattle.tm_report.specs.Report.{name_of}
use Rattle.tm_report.proofs.line.slack_line.Goals as goal

pub returns : goal.returns
returns c =
    let named : name_of c.args.circuit.now c.args.gate ≡ c.name.result.now = get_or_from_slice_get c.args.circuit.now.names c.args.gate c.name.result.now [] c.name.ensures in
    grind (arith, common_steps, append_assoc)
