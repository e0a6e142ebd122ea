use Rattle.std.proofs.Common.{get_or, refl}
use Rattle.tm_parts.proofs.Measures.{scanned_more_wanted, scanned_more_other, scanned_all}
use Rattle.tm_parts.proofs.runs.longest_run.Goals as goal
use Rattle.tm_parts.proofs.runs.longest_run.Goals.{then-byte-wanted, else-byte-wanted}

pub loop-byte-preserved : goal.loop-byte-preserved
loop-byte-preserved c =
    elim c.if-byte-wanted.branch [
      | then-byte-wanted w ↦ scanned_more_wanted c.args.wanted c.args.bytes.now c.loop-byte.byte-index c.loop-byte.run c.loop-byte.longest (get_or c.args.bytes.now c.loop-byte.byte-index 0) c.if-byte-wanted.run c.max-longest.result c.loop-byte.invariant c.loop-byte-test.true refl w.if-byte-wanted.true w.run-is c.max-longest.ensures
      | else-byte-wanted w ↦ scanned_more_other c.args.wanted c.args.bytes.now c.loop-byte.byte-index c.loop-byte.run c.loop-byte.longest (get_or c.args.bytes.now c.loop-byte.byte-index 0) c.if-byte-wanted.run c.max-longest.result c.loop-byte.invariant c.loop-byte-test.true refl w.if-byte-wanted.false w.run-is c.max-longest.ensures
    ]

pub returns : goal.returns
returns c = scanned_all c.args.wanted c.args.bytes.now c.loop-byte.byte-index c.loop-byte.run c.loop-byte.longest c.loop-byte.invariant c.loop-byte-test.false
