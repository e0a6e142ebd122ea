use Rattle.std.proofs.Common.{◌≡◌, ◌++◌, map, take}
use Rattle.std.specs.List.{flat_map}
use Rattle.tm_replay.specs.Replays.{drop_of}
use Rattle.cert_text.specs.Certificates.{line_text, drop_words}
use Rattle.cert_text.proofs.writing.push_drops.Given as goal

-- the drops up to here are written
abbrev pub invariant-loop-drop : goal.invariant-loop-drop
invariant-loop-drop l = l.out.items ≡ l.initial.out.items ++ flat_map line_text (map drop_words (map drop_of (take l.drop-index l.drops)))
