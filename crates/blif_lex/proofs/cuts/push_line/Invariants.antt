use Rattle.std.proofs.Common.{length, map}
use Rattle.blif_lex.proofs.Fronts.{IsOpen}
use Rattle.blif_lex.proofs.cuts.push_line.Given as goal

abbrev pub invariant-lines : goal.invariant-lines
invariant-lines l = IsOpen l.text l.taken (map (λ w. w.now) l.initial.words.items) (map (λ w. w.now) l.words.items) l.rest

abbrev pub decreases-lines : goal.decreases-lines
decreases-lines l = length l.rest
