use Rattle.aiger_read.specs.Names.{percent}
use Rattle.std.proofs.Common.{get_or, refl}
use Rattle.tm_parts.proofs.Measures.{scanned_more_wanted, scanned_more_other, scanned_all}
use Rattle.aiger_read.proofs.names.longest_run.Goals as goal
use Rattle.aiger_read.proofs.names.longest_run.Goals.{then-byte-eq37, else-byte-eq37}

pub loop-byte-preserved : goal.loop-byte-preserved
loop-byte-preserved c =
    elim c.if-byte-eq37.branch [
      | then-byte-eq37 w ↦ scanned_more_wanted percent c.args.name.now c.loop-byte.byte-index c.loop-byte.run c.loop-byte.longest (get_or c.args.name.now c.loop-byte.byte-index 0) c.if-byte-eq37.run c.max-longest.result c.loop-byte.invariant c.loop-byte-test.true refl w.if-byte-eq37.true w.run-is c.max-longest.ensures
      | else-byte-eq37 w ↦ scanned_more_other percent c.args.name.now c.loop-byte.byte-index c.loop-byte.run c.loop-byte.longest (get_or c.args.name.now c.loop-byte.byte-index 0) c.if-byte-eq37.run c.max-longest.result c.loop-byte.invariant c.loop-byte-test.true refl w.if-byte-eq37.false w.run-is c.max-longest.ensures
    ]

pub returns : goal.returns
returns c = scanned_all percent c.args.name.now c.loop-byte.byte-index c.loop-byte.run c.loop-byte.longest c.loop-byte.invariant c.loop-byte-test.false
