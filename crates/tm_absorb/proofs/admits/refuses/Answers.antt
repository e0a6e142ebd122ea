use Rattle.std.proofs.Common.{◌<◌, length}
use Rattle.tm_unroll.specs.declared.node.Node.{Node}
use Rattle.tm_unroll.specs.Mappings.{table_of}
use Rattle.tm_absorb.proofs.SlotLemmas.{all-contained}
use Rattle.tm_absorb.proofs.admits.refuses.Goals as goal

pub admits-requires : goal.admits-requires
admits-requires c = record {
  within = all-contained (λ (x : Node). x.signal < length c.args.circuit.now.drives) c.in-Some.other.now.leaves.items
      (λ x leaf. c.requires.within c.args.gate (table_of c.in-Some.other.now) x c.in-Some.ensures leaf);
}
