use Rattle.tm_flow.proofs.SearchLemmas.{no_reads, reads_more}
use Rattle.tm_flow.proofs.search.take_reads.Goals as goal

pub loop-index-init : goal.loop-index-init
loop-index-init g c = no_reads (g.N.LazyNet.shape c.args.net.now) c.args.node c.clear.new.self.items c.clear.ensures.items

pub loop-index-preserved : goal.loop-index-preserved
loop-index-preserved g c =
    reads_more (g.N.LazyNet.shape c.args.net.now) c.args.node c.loop-index.index c.loop-index.reads.items c.push.new.self.items c.read.result
    c.loop-index.invariant c.read.ensures c.in_ok-push.ensures.items
