use Rattle.std.proofs.Common.{arith}
use Rattle.tm_flow.proofs.PlaceLemmas.{at_within}
use Rattle.tm_flow.proofs.UseLemmas.{uses_named}
use Rattle.tm_flow.proofs.used.use_node.Goals as goal

pub use_number-requires-clause-within : goal.use_number-requires-clause-within
use_number-requires-clause-within g c = omega (arith, at_within c.number_of.new.met.nodes.keys c.in_ok-number.number c.args.node c.in_ok-number.ensures.here)

pub returns : goal.returns
returns g c = uses_named c.args.node c.in_ok-number.number c.in_ok-number.ensures c.use_number.ensures.uses
