use Rattle.std.proofs.Common.{◌≡◌, ◌++◌, take}
use Rattle.cert_text.specs.Certificates.{walk_word}
use Rattle.cert_text.proofs.writing.push_walk.Given as goal

-- the indices up to here are written
abbrev pub invariant-loop-index : goal.invariant-loop-index
invariant-loop-index l = l.out.items ≡ l.initial.out.items ++ walk_word (take l.index-index l.walk)
