use Rattle.std.proofs.Common.{◌≡◌, ◌++◌, map, take}
use Rattle.std.specs.List.{flat_map}
use Rattle.cert_text.specs.Certificates.{further_word, leaf_word}
use Rattle.cert_text.proofs.writing.push_leaves.Given as goal

-- the leaves up to here are written
abbrev pub invariant-loop-leaf : goal.invariant-loop-leaf
invariant-loop-leaf l = l.out.items ≡ l.initial.out.items ++ flat_map further_word (map leaf_word (take l.leaf-index l.leaves))
