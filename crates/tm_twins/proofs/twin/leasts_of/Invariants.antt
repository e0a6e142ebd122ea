-- the least of each signal so far
use Rattle.std.proofs.Common.{◌≡◌, length}
use Rattle.tm_twins.proofs.LeastLemmas.{HaveLeast}
use Rattle.tm_twins.proofs.twin.leasts_of.Given as goal

abbrev pub invariant-loop-s : goal.invariant-loop-s
invariant-loop-s l = record { sized : length l.firsts.items ≡ length l.heads; least : HaveLeast l.heads l.firsts.items l.leasts.items l.s }
