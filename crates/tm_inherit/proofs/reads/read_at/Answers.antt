-- What latches lead to is a signal.
use Rattle.std.proofs.Common.{◌<◌, length, sym, subst}
use Rattle.tm_unroll.specs.declared.node.Node.{Node}
use Rattle.tm_inherit.proofs.ReadLemmas.{behind_within}
use Rattle.tm_inherit.proofs.reads.read_at.Goals as goal

pub served_within-number-requires : goal.served_within-number-requires
served_within-number-requires c =
    subst (λ (y : Node). y.signal < length c.args.circuit.now.drives) (sym c.behind_latches-node.ensures) (behind_within c.args.circuit.now c.signals-sound.ensures.sound c.args.lag c.args.pin c.requires)
