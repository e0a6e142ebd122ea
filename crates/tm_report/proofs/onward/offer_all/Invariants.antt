-- the signals so far were offered the step
use Rattle.std.proofs.Common.{take}
use Rattle.tm_report.specs.Onward.{OffersAll}
use Rattle.tm_report.proofs.onward.offer_all.Given as goal

abbrev pub invariant-loop-signal : goal.invariant-loop-signal
invariant-loop-signal l = OffersAll l.initial.onward l.onward (take l.signal-index l.signals) l.step
