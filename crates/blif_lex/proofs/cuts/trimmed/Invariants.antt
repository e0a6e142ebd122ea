use Rattle.std.proofs.Common.{◌≡◌, ◌+◌, ◌≤◌, length, take}
use Rattle.std.specs.List.{suffix_len}
use Rattle.blif_lex.specs.Words.{is_trailing}
use Rattle.blif_lex.proofs.cuts.trimmed.Given as goal

-- What was dropped so far is all trailing.
abbrev pub invariant-loop-end : goal.invariant-loop-end
invariant-loop-end l = (l.end ≤ length l.bytes) × (l.end + suffix_len is_trailing l.bytes ≡ length l.bytes + suffix_len is_trailing (take l.end l.bytes))

abbrev pub decreases-loop-end : goal.decreases-loop-end
decreases-loop-end l = l.end
