use Rattle.std.proofs.Common.{◌≡◌, ◌++◌}
use Rattle.std.specs.Prelude.{slice_range}
use Rattle.std.specs.List.{flat_map}
use Rattle.blif_write.specs.Text.{further_word}
use Rattle.blif_write.proofs.push_range.Given as goal

abbrev pub invariant-loop-signal : goal.invariant-loop-signal
invariant-loop-signal l =
    l.out.items ≡ l.initial.out.items ++ flat_map further_word (slice_range l.circuit.names l.start l.signal)
