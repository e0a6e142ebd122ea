-- The search has met what its root reads, and nothing else.
use Rattle.tm_unroll.specs.declared.cover.Search.{Search}
use Rattle.tm_unroll.specs.Nodes.{node_at}
use Rattle.tm_unroll.proofs.SearchLemmas.{started}
use Rattle.tm_unroll.proofs.cover.Search.start.Goals as goal

pub returns-clause-start : goal.returns-clause-start
returns-clause-start c =
    let empty : Search = record { root = node_at c.args.lut.now.lag c.args.lut.now.gate; met = c.truncate.new.self; stack = c.clear.new.self } in
    started c.args.circuit.now.drives empty c.meet_reads.new.self c.requires.gate c.truncate.ensures.keys c.clear.ensures.items c.in_ok-meet_reads.ensures
