use Rattle.std.proofs.Common.{length, sym, ◌∙◌, ap}
use Rattle.tm_sim.proofs.RowLemmas.{rows-length}
use Rattle.tm_sim.proofs.vectors.Vectors.steps.Goals as goal

pub returns : goal.returns
returns c =
    let v = c.self.inside in sym (rows-length v.width v.steps v.bits.items) ∙ ap (λ g. length g.rows) c.self.view_is
