-- the leaves have numbers
use Rattle.std.proofs.Common.{List, sym, subst}
use Rattle.std.specs.Prelude.{All}
use Rattle.tm_unroll.specs.declared.node.Node.{Node}
use Rattle.tm_net.specs.Layouts.{IsNumbered}
use Rattle.tm_net.proofs.MakeLemmas.{all_from}
use Rattle.tm_net.proofs.parts.gate.Goals as goal

pub pins-requires-clause-leaves : goal.pins-requires-clause-leaves
pins-requires-clause-leaves c =
    subst (λ (xs : List Node). All (IsNumbered c.args.plan.now.layout) xs) (sym c.as_slice.ensures)
    (all_from (IsNumbered c.args.plan.now.layout) c.args.lut.now.leaves.items c.requires.table.leaves)
