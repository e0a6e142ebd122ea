use Rattle.std.proofs.Common.{map}
use Rattle.turbomap.proofs.Lines.{HaveSaid}
use Rattle.turbomap.proofs.say.tell_all.Given as goal

abbrev pub invariant-loop-line : goal.invariant-loop-line
invariant-loop-line g l =
    HaveSaid (g.W.Say.said l.fn.say) (g.W.Say.said l.say) (g.W.Say.faults l.fn.say) (g.W.Say.faults l.say) (map (λ line. line.items) l.lines) l.line-index
