use Rattle.std.proofs.Common.{◌≡◌, ◌++◌, take}
use Rattle.std.specs.List.{flat_map}
use Rattle.blif_write.specs.Text.{further_word, names_of}
use Rattle.blif_write.proofs.push_names.Given as goal

abbrev pub invariant-loop-signal : goal.invariant-loop-signal
invariant-loop-signal l =
    l.out.items ≡ l.initial.out.items ++ flat_map further_word (names_of l.circuit (take l.signal-index l.signals))
