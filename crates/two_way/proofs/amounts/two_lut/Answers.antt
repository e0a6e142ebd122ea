-- The leaves are low.
use Rattle.std.proofs.Common.{List, subst}
use Rattle.std.specs.Prelude.{Contains}
use Rattle.tm_unroll.specs.declared.node.Node.{Node}
use Rattle.two_way.proofs.amounts.two_lut.Goals as goal

pub two_nodes-requires-clause-low : goal.two_nodes-requires-clause-low
two_nodes-requires-clause-low c = λ x leaf. c.requires.low.leaves x (subst (λ (xs : List Node). Contains xs x) c.as_slice.ensures leaf)
