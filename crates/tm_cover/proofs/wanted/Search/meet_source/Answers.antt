-- The source gate is met, and another source meets nothing.
use Rattle.std.proofs.Common.{inl, inr}
use Rattle.std.proofs.lemmas.Result.{on_ok_weaker}
use Rattle.tm_cover.proofs.SearchLemmas.{meets_source, meets_no_source}
use Rattle.tm_cover.proofs.wanted.Search.meet_source.Goals as goal

pub returns-in-Gate : goal.returns-in-Gate
returns-in-Gate c =
    on_ok_weaker c.meet.result (meets_source c.args.circuit.now.drives c.args.s c.in-Gate.gate c.source.result c.args.self.now c.meet.new.self c.source.ensures c.in-Gate.is)
    c.meet.ensures

pub returns-in-Input : goal.returns-in-Input
returns-in-Input c =
    meets_no_source c.args.circuit.now.drives c.args.s c.source.result c.args.self.now c.source.ensures
    (λ g gate. elim c.in-Input.is [ inl is ↦ (let one = is.1 in cc) | inr is ↦ cc ])
