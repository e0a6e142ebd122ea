use Rattle.cert_check.specs.declared.verdict.Verdict.TheVariants.{Yes, No}
use Rattle.std.proofs.Common.{◌≡◌}
use Rattle.cert_check.proofs.VerdictLemmas.{one_verdict_lem}
use Rattle.cert_check.proofs.laws.one_verdict.Goals as goal

pub returns-clause-one : goal.returns-clause-one
returns-clause-one g = one_verdict_lem

pub returns-clause-not_both : goal.returns-clause-not_both
returns-clause-not_both g source mapped cert k d entry why some accepted failed =
    let same : Yes ≡ No entry why = one_verdict_lem source mapped cert k d Yes (No entry why) some accepted failed in
    cc
