use Rattle.std.proofs.Common.{◌≡◌, true, take}
use Rattle.std.specs.List.{list_all}
use Rattle.cert_text.specs.Words.{is_index, walk_in}
use Rattle.cert_text.proofs.words.walk.Given as goal

-- the bytes up to here are indices
abbrev pub invariant-loop-byte : goal.invariant-loop-byte
invariant-loop-byte l = (list_all is_index (take l.byte-index l.word) ≡ true) × (l.indices.items ≡ walk_in (take l.byte-index l.word))
