use Rattle.std.proofs.Common.{◌≡◌, ◌++◌, map, take}
use Rattle.std.specs.List.{flat_map}
use Rattle.tm_flow.specs.Lists.{lists_in}
use Rattle.cert_text.specs.Certificates.{further_word, walk_word}
use Rattle.cert_text.proofs.writing.push_walks.Given as goal

-- the walks up to here are written
abbrev pub invariant-loop-walk : goal.invariant-loop-walk
invariant-loop-walk l = l.out.items ≡ l.initial.out.items ++ flat_map further_word (map walk_word (lists_in (take l.walk-index l.walks)))
