-- A name that is not added came before, and one that is added did not.
use Rattle.std.proofs.Common.{◌<◌, length, ap, arith}
use Rattle.std.proofs.lemmas.Bool.{false≢true}
use Rattle.tm_circuit.specs.Sound.{clock_name}
use Rattle.tm_circuit.proofs.DistinctLemmas.{seen_again, seen_more, clock_seen}
use Rattle.tm_circuit.proofs.distinct.are_distinct_names.Goals as goal

pub returns-then-not-branch : goal.returns-then-not-branch
returns-then-not-branch c =
    let within : c.loop-name.name-index < length c.args.names.now = omega arith in (
      λ e. absurd (false≢true e),
      λ pairs. absurd (seen_again c.loop-name.seen.keys c.args.names.now (clock_name c.args.clock.now) c.loop-name.name-index c.name-item.result c.bytes.result.now c.in_ok-insert.field-0
          c.loop-name.invariant within c.bytes.ensures c.name-item.is c.in_ok-insert.ensures.added c.if-not-branch.true pairs),
    )

pub loop-name-preserved : goal.loop-name-preserved
loop-name-preserved c =
    let within : c.loop-name.name-index < length c.args.names.now = omega arith in
    seen_more c.loop-name.seen.keys c.insert.new.self.keys c.args.names.now c.loop-name.name-index c.name-item.result c.bytes.result c.in_ok-insert.field-0
    c.loop-name.invariant within c.bytes.ensures c.name-item.is c.in_ok-insert.ensures.added c.if-not-branch.false c.in_ok-insert.ensures.keys

pub returns-in-Some : goal.returns-in-Some
returns-in-Some c =
    clock_seen c.loop-name.seen.keys c.args.names.now (clock_name c.args.clock.now) c.loop-name.name-index c.in-Some.clock.name c.bytes-in-Some.result.now c.in_ok-insert-in-Some.field-0
    c.loop-name.invariant (omega (arith, c.loop-name-test.false)) c.bytes-in-Some.ensures (ap clock_name c.in-Some.is) c.in_ok-insert-in-Some.ensures.added
