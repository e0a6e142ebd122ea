-- the first sources of all signals
use Rattle.std.proofs.Common.{◌≡◌, map, length, subst, arith}
use Rattle.tm_circuit.specs.Plain.{drive_of}
use Rattle.tm_circuit.proofs.SourceLemmas.{HaveFirst, first_settled}
use Rattle.tm_circuit.proofs.sources.Followed.new.Goals as goal

pub returns : goal.returns
returns c =
    let all : c.loop-s.s ≡ length c.args.drivers.now = omega (arith, c.loop-s-test.false, c.loop-s.auto.s-end) in
    first_settled c.args.drivers.now _ c.in_ok-met.ensures (subst (λ n. HaveFirst (map drive_of c.args.drivers.now) c.loop-s.sources.items n) all c.loop-s.invariant)
