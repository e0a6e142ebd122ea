-- the signals so far are set
use Rattle.std.proofs.Common.{take}
use Rattle.tm_circuit.specs.Follow.{SetsAll}
use Rattle.tm_circuit.proofs.sources.set_all.Given as goal

abbrev pub invariant-loop-signal : goal.invariant-loop-signal
invariant-loop-signal l = SetsAll l.initial.sources l.sources (take l.signal-index l.signals) l.source
