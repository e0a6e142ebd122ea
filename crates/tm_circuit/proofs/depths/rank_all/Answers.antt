-- At the end all signals were met.
use Rattle.std.proofs.Common.{◌≡◌, map, length, subst, refl, arith}
use Rattle.std.proofs.lemmas.List.{length-map}
use Rattle.tm_circuit.specs.Plain.{drive_of}
use Rattle.tm_circuit.proofs.DescentLemmas.{HasVisited}
use Rattle.tm_circuit.proofs.DescentEnds.{found}
use Rattle.tm_circuit.proofs.depths.rank_all.Goals as goal

pub returns : goal.returns
returns c =
    let all : c.loop-s.s ≡ length (map drive_of c.args.drivers.now) = omega (arith, c.loop-s-test.false, c.loop-s.auto.s-end, length-map c.args.drivers.now drive_of) in
    found (map drive_of c.args.drivers.now) c.loop-s.descent _ (subst (λ n. HasVisited (map drive_of c.args.drivers.now) c.loop-s.descent n) all c.loop-s.invariant) refl refl
