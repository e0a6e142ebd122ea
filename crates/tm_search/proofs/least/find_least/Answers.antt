-- All targets are within the circuit's period, which is at most the number of its signals.
use Rattle.std.proofs.Common.{subst, arith}
use Rattle.tm_search.specs.declared.least.Tried.{Tried}
use Rattle.tm_search.specs.Tried.{IsTried}
use Rattle.tm_search.proofs.PeriodLemmas.{period_few}
use Rattle.tm_search.proofs.least.find_least.Goals as goal

pub try_target-requires-clause-target : goal.try_target-requires-clause-target
try_target-requires-clause-target c =
    let few = period_few c.args.circuit.now c.in_ok-most.most c.in_ok-most.ensures.sound c.in_ok-most.ensures.period in
    let signals = c.requires.signals in
    let within = c.in_ok-target.ensures in
    omega (arith, few, signals, within)

pub go_down-requires-clause-target : goal.go_down-requires-clause-target
go_down-requires-clause-target c =
    let few = period_few c.args.circuit.now c.in_ok-most.most c.in_ok-most.ensures.sound c.in_ok-most.ensures.period in
    let signals = c.requires.signals in
    let within = c.in_ok-target.ensures in
    let (reaches, sized) = subst (λ (t : Tried). IsTried c.args.base c.args.circuit.now c.args.k c.args.d c.in_ok-target.target t) c.in-Reached.is c.in_ok-at.ensures in
    let same = reaches.target in
    omega (arith, few, signals, within, same)

pub go_up-requires-clause-most : goal.go_up-requires-clause-most
go_up-requires-clause-most c =
    let few = period_few c.args.circuit.now c.in_ok-most.most c.in_ok-most.ensures.sound c.in_ok-most.ensures.period in
    let signals = c.requires.signals in
    omega (arith, few, signals)
