use Rattle.std.proofs.lemmas.List.{map-set}
use Rattle.tm_labels.proofs.cuts.put.Goals as goal

pub returns : goal.returns
returns c = map-set (λ cut. cut.items) c.args.leaves.now c.args.place c.args.cut
