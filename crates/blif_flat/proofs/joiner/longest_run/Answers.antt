use Rattle.std.proofs.Common.{get_or, refl, arith}
use Rattle.tm_parts.proofs.Measures.{scanned_more_wanted, scanned_more_other, scanned_all}
use Rattle.blif_flat.proofs.joiner.longest_run.Goals as goal
use Rattle.blif_flat.proofs.joiner.longest_run.Goals.{then-byte-eq64, else-byte-eq64}

pub loop-byte-preserved : goal.loop-byte-preserved
loop-byte-preserved c =
    elim c.if-byte-eq64.branch [
      | then-byte-eq64 w ↦ scanned_more_wanted 64 c.args.bytes.now c.loop-byte.byte-index c.loop-byte.run c.loop-byte.longest (get_or c.args.bytes.now c.loop-byte.byte-index 0) c.if-byte-eq64.run c.max-longest.result c.loop-byte.invariant c.loop-byte-test.true refl w.if-byte-eq64.true w.run-is c.max-longest.ensures
      | else-byte-eq64 w ↦ scanned_more_other 64 c.args.bytes.now c.loop-byte.byte-index c.loop-byte.run c.loop-byte.longest (get_or c.args.bytes.now c.loop-byte.byte-index 0) c.if-byte-eq64.run c.max-longest.result c.loop-byte.invariant c.loop-byte-test.true refl w.if-byte-eq64.false w.run-is c.max-longest.ensures
    ]

pub returns : goal.returns
returns c = record {
  run = scanned_all 64 c.args.bytes.now c.loop-byte.byte-index c.loop-byte.run c.loop-byte.longest c.loop-byte.invariant c.loop-byte-test.false;
  small = omega (arith, c.loop-byte.invariant.bounded);
}
