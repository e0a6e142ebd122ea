use Rattle.std.proofs.Common.{inl, inr, sym, ◌∙◌, ap}
use Rattle.std.specs.Prelude.{is_some}
use Rattle.tm_circuit.specs.declared.sources.Source.{Source}
use Rattle.tm_replay.specs.Served.{source_serves}
use Rattle.tm_replay.proofs.SourceLemmas.{source_found}
use Rattle.tm_replay.proofs.served.has_served_source.Goals as goal

pub returns-in-Gate : goal.returns-in-Gate
returns-in-Gate c =
    let found = source_found c.args.circuit.now c.signals-sound.ensures.sound c.args.s c.source.result c.source.ensures in
    c.is_some.ensures ∙ ap is_some c.label_in.ensures ∙ ap (λ (e : Source). source_serves c.args.labels.now e) (sym c.in-Gate.is ∙ found)

pub returns-in-Input : goal.returns-in-Input
returns-in-Input c =
    let found = source_found c.args.circuit.now c.signals-sound.ensures.sound c.args.s c.source.result c.source.ensures in
    elim c.in-Input.is [
      | inl is ↦ ap (λ (e : Source). source_serves c.args.labels.now e) (sym is.1 ∙ found)
      | inr is ↦ ap (λ (e : Source). source_serves c.args.labels.now e) (sym is ∙ found)
    ]
