-- A line that tells the version, or its fault.
use Rattle.std.proofs.Common.{ℕ, eqb, length, ap}
use Rattle.cert_text.specs.declared.fault.CertKind.TheVariants.{Version}
use Rattle.cert_text.specs.Faults.{first, pieces_of}
use Rattle.cert_text.proofs.Lists.{length-pieces}
use Rattle.cert_text.proofs.StepLemmas.{stops_unended, stops_line, takes_line, fault-version, fault-no_version, if_none}
use Rattle.cert_text.proofs.lines.version_due.Goals as goal

pub returns-in_default-clause-fault : goal.returns-in_default-clause-fault
returns-in_default-clause-fault c =
    let one = ap length (if_none c.cut_line.result _ c.in_default.not-Some c.cut_line.ensures.none) in
    rw c.at.ensures (stops_unended first (pieces_of c.args.text.now) 1 one)

pub returns-in_default-version_of-clause-fault : goal.returns-in_default-version_of-clause-fault
returns-in_default-version_of-clause-fault c =
    let line = c.in-Some.line.now in
    let rest = c.in-Some.rest.now in
    let none = if_none c.version_of.result _ c.in_default-version_of.not-Some c.version_of.ensures.none in
    rw c.at-in_default-version_of.ensures (stops_line first (pieces_of c.args.text.now) line (pieces_of rest) 1 Version c.in-Some.ensures.some (length-pieces (λ (b : ℕ). eqb b 10) rest) (fault-no_version line none))

pub returns-clause-told : goal.returns-clause-told
returns-clause-told c =
    let line = c.in-Some.line.now in
    let rest = c.in-Some.rest.now in
    let told = c.in-Some-version_of.ensures.some in
    record {
      line = line;
      taken = takes_line first (pieces_of c.args.text.now) line (pieces_of rest) c.in-Some.ensures.some (length-pieces (λ (b : ℕ). eqb b 10) rest) (fault-version line told.0);
      told = told.1;
    }
