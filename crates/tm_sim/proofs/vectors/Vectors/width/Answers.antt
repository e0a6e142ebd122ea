use Rattle.std.proofs.Common.{◌≡◌, length, subst}
use Rattle.std.specs.Prelude.{All}
use Rattle.tm_sim.specs.Grid.{Grid}
use Rattle.tm_sim.proofs.RowLemmas.{rows-even}
use Rattle.tm_sim.proofs.vectors.Vectors.width.Goals as goal

pub returns-clause-even : goal.returns-clause-even
returns-clause-even c =
    let v = c.self.inside in
    subst (λ (g : Grid). All (λ row. length row ≡ g.width) g.rows) c.self.view_is (rows-even v.width v.steps v.bits.items c.self.invariant)
