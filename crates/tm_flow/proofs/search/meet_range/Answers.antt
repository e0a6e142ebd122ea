use Rattle.std.proofs.Common.{refl, arith}
use Rattle.tm_flow.proofs.PlaceLemmas.{at_named}
use Rattle.tm_flow.proofs.SearchLemmas.{reading_first, reading_on}
use Rattle.tm_flow.proofs.search.meet_range.Goals as goal

pub loop-index-preserved : goal.loop-index-preserved
loop-index-preserved g c =
    reading_on c.args.from c.loop-index.index c.index-reads-index.result c.meet_at.new.search.met.nodes.keys c.meet_at.new.search.met.marks.items c.meet_at.new.search.pending.items c.near-side.result _
    (at_named c.args.reads.now c.loop-index.index c.index-reads-index.result (omega arith) c.index-reads-index.is) c.near-side.ensures refl
    c.loop-index.invariant c.in_ok-meet_at.ensures.meets c.in_ok-meet_at.ensures.met

pub loop-index-init : goal.loop-index-init
loop-index-init g c =
    reading_first c.args.reads.now c.args.depth c.args.search.now.met.nodes.keys c.args.search.now.met.marks.items c.args.search.now.pending.items
    c.args.from c.requires.numbered
