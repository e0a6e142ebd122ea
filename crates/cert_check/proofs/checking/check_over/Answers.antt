use Rattle.std.proofs.Common.{rules, List, map, subst, arith}
use Rattle.std.proofs.lemmas.Result.{IfOk-weaker}
use Rattle.tm_unroll.specs.Mappings.{tables_of, IsLawful}
use Rattle.tm_replay.specs.declared.label.Lowering.{Lowering}
use Rattle.tm_replay.specs.Replays.{drop_of}
use Rattle.cert_text.specs.Certificates.{certificate_of}
use Rattle.cert_check.specs.Accepted.{IsMappedWithin, IsVerdictOver}
use Rattle.cert_check.specs.Steps.{IsVerdictOnDrops}
use Rattle.cert_check.proofs.VerdictLemmas.{over_drops}
use Rattle.cert_check.proofs.checking.check_over.Goals as goal

pub returns : goal.returns
returns c =
    let lawful : IsLawful c.args.circuit.now c.args.k c.args.d (tables_of c.args.cert.now.mapping) = search rules in
    let period = c.in_ok-chain.ensures in
    let right : IsMappedWithin c.args.circuit.now c.args.mapped.now (certificate_of c.args.cert.now) c.args.k c.args.d = record {
      lawful = lawful;
      chains = λ chain is. let most = period.greatest chain is in omega (arith, most, c.if-branch-cert.false);
      circuit = c.in_ok-is_mapped_circuit.ensures.0 c.if-not-branch.false;
    } in
    IfOk-weaker c.judge_drops.result (IsVerdictOnDrops c.args.circuit.now c.args.k c.args.d c.args.cert.now.period (map drop_of c.deref.result.now))
    (IsVerdictOver c.args.circuit.now c.args.mapped.now (certificate_of c.args.cert.now) c.args.k c.args.d)
    (λ v on. over_drops c.args.circuit.now c.args.mapped.now (certificate_of c.args.cert.now) c.args.k c.args.d v right
    (subst (λ (ds : List Lowering). IsVerdictOnDrops c.args.circuit.now c.args.k c.args.d c.args.cert.now.period (map drop_of ds) v) c.deref.ensures.value on)) c.judge_drops.ensures
