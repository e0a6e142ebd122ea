use Rattle.std.proofs.Common.{subst}
use Rattle.tm_circuit.specs.Source.{IsSource}
use Rattle.tm_circuit.specs.declared.sources.Source.{Source}
use Rattle.tm_merge.proofs.LeadingLemmas.{source_marked, source_free}
use Rattle.tm_merge.proofs.outputs.Marking.mark_source.Goals as goal

pub returns-in_ok-mark : goal.returns-in_ok-mark
returns-in_ok-mark c =
    let circuit = c.args.circuit.now in
    source_marked circuit c.args.s c.in-Gate.gate c.args.self.now c.mark.new.self (subst (λ (e : Source). IsSource circuit.drives c.args.s e) c.in-Gate.is c.source.ensures) c.in_ok-mark.ensures

pub returns-in_default : goal.returns-in_default
returns-in_default c = source_free c.args.circuit.now c.args.s c.source.result c.args.self.now c.requires.marking c.source.ensures c.in_default.not-Gate
