use Rattle.std.proofs.Common.{◌≡◌, ◌+◌, map}
use Rattle.tm_replay.specs.Replays.{drop_of}
use Rattle.cert_text.specs.declared.keyword.Keyword.TheVariants.{Drop}
use Rattle.cert_text.specs.Words.{drop_on}
use Rattle.cert_text.specs.Faults.{pieces_of}
use Rattle.cert_text.specs.Steps.{TakesEach}
use Rattle.cert_text.proofs.reading.drops_due.Given as goal

-- the drops up to here are read
abbrev pub invariant-loop-taken : goal.invariant-loop-taken
invariant-loop-taken l = TakesEach Drop drop_on l.taken (pieces_of l.fn.lines.rest.now) (map drop_of l.drops.items) (pieces_of l.left.rest.now)
    × (l.left.number ≡ l.fn.lines.number + l.taken)
