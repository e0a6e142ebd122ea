-- at the end all signals are met
use Rattle.std.proofs.Common.{◌≡◌, map, length, subst, arith}
use Rattle.std.proofs.lemmas.List.{length-map}
use Rattle.tm_circuit.specs.Plain.{drive_of}
use Rattle.tm_circuit.proofs.SourceLemmas.{HasFollowed, followed_all}
use Rattle.tm_circuit.proofs.sources.sources_of.Goals as goal

pub returns : goal.returns
returns c =
    let all : c.loop-s.s ≡ length (map drive_of c.args.drivers.now) = omega (arith, c.loop-s-test.false, c.loop-s.auto.s-end, length-map c.args.drivers.now drive_of) in
    followed_all (map drive_of c.args.drivers.now) c.loop-s.followed (subst (λ n. HasFollowed (map drive_of c.args.drivers.now) c.loop-s.followed n) all c.loop-s.invariant)
