-- The leaves of cuts are signals.
use Rattle.tm_labels.proofs.watcher.is_late.Goals as goal

pub serves_from-requires : goal.serves_from-requires
serves_from-requires c = c.requires c.args.gate c.args.node (c.is_leaf.ensures.0 c.if-not-is_leaf.false)
