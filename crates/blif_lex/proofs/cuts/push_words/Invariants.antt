use Rattle.std.proofs.Common.{◌≡◌, ◌++◌, map, length, nat_lt}
use Rattle.std.specs.List.{filter}
use Rattle.blif_lex.proofs.cuts.push_words.Given as goal

-- The parts so far that are not empty were pushed.
abbrev pub invariant-loop-word : goal.invariant-loop-word
invariant-loop-word l = map (λ w. w.now) l.words.items
    ≡ map (λ w. w.now) l.initial.words.items ++ filter (λ w. nat_lt 0 (length w)) (map (λ w. w.now) l.yielded)
