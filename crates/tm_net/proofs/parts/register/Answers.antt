-- what the register stands behind has a number
use Rattle.std.proofs.Common.{sym, subst}
use Rattle.tm_unroll.specs.declared.node.Node.{Node}
use Rattle.tm_net.specs.Layouts.{IsNumbered}
use Rattle.tm_net.proofs.MakeLemmas.{fit_register}
use Rattle.tm_net.proofs.parts.register.Goals as goal

pub number-next-requires-clause-node : goal.number-next-requires-clause-node
number-next-requires-clause-node c =
    subst (λ (x : Node). IsNumbered c.args.plan.now.layout x) (sym c.behind.ensures)
    (fit_register c.args.circuit.now c.args.plan.now c.args.node.now c.requires.sound c.requires.plan c.requires.register).behind
