-- A row lies within the bits.
use Rattle.std.proofs.Common.{◌<◌, length, sym, ◌∙◌, ap, arith}
use Rattle.std.specs.Prelude.{slice_get}
use Rattle.tm_sim.proofs.RowLemmas.{rows-length, rows-get, row-inside}
use Rattle.tm_sim.proofs.vectors.Vectors.row.Goals as goal

pub slice_bounds-result-end : goal.slice_bounds-result-end
slice_bounds-result-end c =
    let v = c.self.inside in
    let below : c.args.step < v.steps = omega (arith, rows-length v.width v.steps v.bits.items, ap (λ g. length g.rows) c.self.view_is) in
    let inside = row-inside v.width v.steps c.args.step below in
    omega (arith, inside, c.deref.ensures.len)

pub returns : goal.returns
returns c =
    let v = c.self.inside in
    let below : c.args.step < v.steps = omega (arith, rows-length v.width v.steps v.bits.items, ap (λ g. length g.rows) c.self.view_is) in
    rw c.deref.ensures.value (ap (λ g. slice_get g.rows c.args.step) (sym c.self.view_is) ∙ rows-get v.width v.steps v.bits.items c.args.step below)
