use Rattle.std.proofs.Common.{◌≡◌, true, map, take}
use Rattle.std.specs.List.{list_all}
use Rattle.cert_text.specs.Words.{is_leaf, leaf_in}
use Rattle.cert_text.proofs.words.leaves.Given as goal

-- the words up to here are leaves
abbrev pub invariant-loop-word : goal.invariant-loop-word
invariant-loop-word l =
    (list_all is_leaf (map (λ w. w.now) (take l.word-index l.words)) ≡ true) × (l.leaves.items ≡ map leaf_in (map (λ w. w.now) (take l.word-index l.words)))
