-- The source of the signal decides.
use Rattle.std.proofs.Common.{inl, inr, subst}
use Rattle.tm_circuit.specs.Source.{IsSource}
use Rattle.tm_unroll.proofs.LookupLemmas.{source_is, source_input, source_ring}
use Rattle.tm_unroll.proofs.lookup.has_source_table.Goals as goal

pub returns-in-Gate : goal.returns-in-Gate
returns-in-Gate c =
    let source = subst (λ e. IsSource c.args.circuit.now.drives c.args.s e) c.in-Gate.is c.source.ensures in
    λ tables lags. source_is c.args.circuit.now.drives tables c.args.lags.now c.args.s _ c.has_table.result source lags c.has_table.ensures

pub returns-in-Input : goal.returns-in-Input
returns-in-Input c =
    elim c.in-Input.is [
      | inl from ↦ λ tables lags. source_input c.args.circuit.now.drives tables c.args.s from.0 (subst (λ e. IsSource c.args.circuit.now.drives c.args.s e) from.1 c.source.ensures)
      | inr ring ↦ λ tables lags. source_ring c.args.circuit.now.drives tables c.args.s (subst (λ e. IsSource c.args.circuit.now.drives c.args.s e) ring c.source.ensures)
    ]
