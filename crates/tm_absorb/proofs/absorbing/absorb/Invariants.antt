-- so many tables were absorbed, and each that can go waits
use Rattle.std.proofs.Common.{ℕ, length}
use Rattle.tm_unroll.specs.Mappings.{tables_of}
use Rattle.tm_absorb.specs.Absorbing.{AbsorbsFirst}
use Rattle.tm_absorb.specs.Slots.{present, IsState, AreAwaited}
use Rattle.tm_absorb.proofs.absorbing.absorb.Given as goal

abbrev pub invariant-loop-under_way : goal.invariant-loop-under_way
invariant-loop-under_way l = IsState l.circuit l.k l.d l.under_way × AreAwaited l.circuit l.k l.under_way.slots.items l.under_way.queue.keys
    × ((times : ℕ) × AbsorbsFirst l.circuit l.k times (tables_of l.mapping) (present l.under_way.slots.items))

abbrev pub decreases-loop-under_way : goal.decreases-loop-under_way
decreases-loop-under_way l = length (present l.under_way.slots.items)
