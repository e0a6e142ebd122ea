use Rattle.std.proofs.Common.{◌≡◌, true, map, take}
use Rattle.std.specs.List.{list_all}
use Rattle.tm_flow.specs.Lists.{lists_in}
use Rattle.cert_text.specs.Words.{is_walk, walk_in}
use Rattle.cert_text.proofs.words.walks.Given as goal

-- the words up to here are walks
abbrev pub invariant-loop-word : goal.invariant-loop-word
invariant-loop-word l =
    (list_all is_walk (map (λ w. w.now) (take l.word-index l.words)) ≡ true) × (lists_in l.walks.items ≡ map walk_in (map (λ w. w.now) (take l.word-index l.words)))
