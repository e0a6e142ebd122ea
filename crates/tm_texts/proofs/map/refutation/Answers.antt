use Rattle.tm_texts.proofs.MapLemmas.{show_least}
use Rattle.tm_texts.proofs.map.refutation.Goals as goal

pub returns-then-len : goal.returns-then-len
returns-then-len c =
    show_least c.args.circuit.now c.args.k c.args.d c.args.period c.in-Some.below _ (rw c.in-Some.is at c.requires.below) c.into_drops-drops.ensures
