use Rattle.std.proofs.Common.{set, ap, arith}
use Rattle.tm_flow.proofs.PlaceLemmas.{at_named}
use Rattle.tm_flow.proofs.UseLemmas.{uses_one}
use Rattle.tm_flow.proofs.used.use_number.Goals as goal

pub returns-clause-uses : goal.returns-clause-uses
returns-clause-uses g c =
    let marks = c.args.met.now.marks.items in
    uses_one c.args.met.now.nodes.keys marks _ c.args.number c.index.result.now c.requires.numbered
    (at_named marks c.args.number c.index.result.now (omega (arith, c.requires.numbered.even)) c.index.ensures) (ap (set marks c.args.number) c.with_use.ensures)
