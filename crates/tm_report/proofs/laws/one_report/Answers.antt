-- a circuit has at most one report
use Rattle.tm_report.proofs.Reports.{report_is_one}
use Rattle.tm_report.proofs.laws.one_report.Goals as goal

pub returns : goal.returns
returns c = λ circuit a b ra rb. report_is_one circuit a b ra rb
