use Rattle.std.proofs.Common.{inl, inr, sym, subst}
use Rattle.std.specs.Prelude.{Option}
use Rattle.std.proofs.lemmas.Bool.{false≢true}
use Rattle.tm_replay.specs.declared.label.Label.{Label}
use Rattle.tm_replay.specs.Replays.{FallsShort}
use Rattle.tm_replay.proofs.LostLemmas.{gate_lost, input_keeps, ring_keeps}
use Rattle.tm_replay.proofs.lost.has_lost_source.Goals as goal

pub returns-in-Gate : goal.returns-in-Gate
returns-in-Gate c =
    let lost = gate_lost c.args.circuit.now.drives c.args.labels.now c.args.s c.args.need c.source.result c.in-Gate.gate c.source.ensures c.in-Gate.is in (
      λ short. lost.0 (subst (λ (x : Option Label). FallsShort x c.args.need) c.label_in.ensures (c.falls_short.ensures.0 short)),
      λ gone. c.falls_short.ensures.1 (subst (λ (x : Option Label). FallsShort x c.args.need) (sym c.label_in.ensures) (lost.1 gone)),
    )

pub returns-in-Input : goal.returns-in-Input
returns-in-Input c = (
  λ none. absurd (false≢true none),
  λ lost. absurd (elim c.in-Input.is [
    | inl is ↦ input_keeps c.args.circuit.now.drives c.args.labels.now c.args.s c.args.need is.0 c.source.result c.source.ensures is.1 lost
    | inr is ↦ ring_keeps c.args.circuit.now.drives c.args.labels.now c.args.s c.args.need c.source.result c.source.ensures is lost
  ]),
)
