-- The last drop is one of the drops.
use Rattle.std.proofs.Common.{map, Option, subst}
use Rattle.std.specs.Prelude.{Contains, IfSome}
use Rattle.tm_replay.specs.Replays.{drop_of}
use Rattle.tm_labels.proofs.find.taken_over.Goals as goal

pub inherit-requires-clause-last : goal.inherit-requires-clause-last
inherit-requires-clause-last c x is =
    c.requires.drops (drop_of x.now) (subst (λ (o : Option _). IfSome o (λ d. Contains (map drop_of c.args.drops.now) (drop_of d.now))) is c.last-last.ensures.stands)
