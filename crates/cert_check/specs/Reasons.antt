-- The reasons of a verdict for the reasons of a mapping's fault and of a drop's.
use Rattle.tm_unroll.specs.declared.node.MapWhy.{MapWhy}
use Rattle.tm_unroll.specs.declared.node.MapWhy.TheVariants as mapping
use Rattle.tm_replay.specs.declared.fault.DropWhy.{DropWhy}
use Rattle.tm_replay.specs.declared.fault.DropWhy.TheVariants as drop
use Rattle.cert_check.specs.declared.verdict.Why.{Why}
use Rattle.cert_check.specs.declared.verdict.Why.TheVariants.{Lag, Leaves, Uncovered, Unserved, Output, Order, TooFew, Path, Shared}

-- The reason for a mapping's fault.
abbrev pub why_of_mapping : MapWhy → Why
why_of_mapping mapping.Lag = Lag
why_of_mapping mapping.Leaves = Leaves
why_of_mapping mapping.Uncovered = Uncovered
why_of_mapping mapping.Unserved = Unserved
why_of_mapping mapping.Output = Output

-- The reason for a drop's fault.
abbrev pub why_of_drop : DropWhy → Why
why_of_drop drop.Order = Order
why_of_drop drop.TooFew = TooFew
why_of_drop drop.Path = Path
why_of_drop drop.Shared = Shared
