use Rattle.std.proofs.Common.{subst}
use Rattle.tm_labels.specs.Working.{IsWorking}
use Rattle.tm_labels.proofs.WorkLemmas.{is_working}
use Rattle.tm_labels.proofs.work.Work.queued.Goals as goal

pub returns-clause-working : goal.returns-clause-working
returns-clause-working c = subst IsWorking c.self.view_is (is_working c.self.inside c.self.invariant)
