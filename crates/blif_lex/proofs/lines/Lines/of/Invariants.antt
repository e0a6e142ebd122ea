use Rattle.std.proofs.Common.{length, map}
use Rattle.blif_lex.proofs.Texts.{IsLexed}
use Rattle.blif_lex.proofs.lines.Lines.of.Given as goal

abbrev pub invariant-loop-rest : goal.invariant-loop-rest
invariant-loop-rest l = IsLexed l.name l.bindings l.text (map (λ w. w.now) l.words.items) l.spans.items l.above l.rest

abbrev pub decreases-loop-rest : goal.decreases-loop-rest
decreases-loop-rest l = length l.rest
