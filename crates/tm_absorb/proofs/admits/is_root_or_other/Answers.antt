use Rattle.std.proofs.Common.{sym, ◌∙◌, ◌≡◌, subst}
use Rattle.std.proofs.lemmas.Bool.{false≢true}
use Rattle.tm_circuit.specs.Source.{IsSource}
use Rattle.tm_circuit.specs.declared.sources.Source.{Source}
use Rattle.tm_circuit.specs.declared.sources.Source.TheVariants.{Gate}
use Rattle.tm_circuit.proofs.OneSource.{one_source}
use Rattle.tm_unroll.specs.Mappings.{table_of}
use Rattle.tm_absorb.proofs.AdmitLemmas.{root_or_other}
use Rattle.tm_absorb.proofs.admits.is_root_or_other.Goals as goal

pub returns-then-not-is_gate : goal.returns-then-not-is_gate
returns-then-not-is_gate c = λ source. absurd (false≢true (sym c.if-not-is_gate.true ∙ c.is_gate.ensures.1
    (one_source c.args.circuit.now.drives c.args.leaf.now.signal c.source.result (Gate c.args.table.now.gate) c.source.ensures source)))

pub returns : goal.returns
returns c =
    let at : c.source.result ≡ Gate c.args.table.now.gate = c.is_gate.ensures.0 c.if-not-is_gate.false in
    root_or_other c.args.circuit.now.drives (table_of c.args.table.now) c.args.leaf.now c.is_root.result
    (subst (λ (e : Source). IsSource c.args.circuit.now.drives c.args.leaf.now.signal e) at c.source.ensures) c.is_root.ensures
