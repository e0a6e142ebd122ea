use Rattle.std.proofs.Common.{nat_lt, true≢false, sym, ◌∙◌, rules}
use Rattle.std.proofs.lemmas.List.Sorted.{IsPartitionPoint-from_clause}
use Rattle.tm_flow.proofs.FlowLemmas.{parted, absent_else}
use Rattle.tm_flow.proofs.flow.place_of.Goals as goal

pub returns-else-is_at-clause-absent : goal.returns-else-is_at-clause-absent
returns-else-is_at-clause-absent g c =
    let n = g.N.LazyNet.shape c.args.net.now in
    let falls = g.met.N.LazyNet.rank_falls c.args.net.now in
    let point = IsPartitionPoint-from_clause (λ e. nat_lt (n.rank c.args.edge.from) (n.rank e.from)) c.args.walk.now c.partition_point-place.result
    c.partition_point-place.ensures.partitioned (parted n falls (n.rank c.args.edge.from) c.args.walk.now c.requires.0 c.requires.1) (λ a r f k. search rules) in
    absent_else n falls c.args.walk.now c.requires.0 c.args.edge c.partition_point-place.result c.requires.1 point
    (λ here. true≢false (sym (c.is_at.ensures.1 here) ∙ c.if-is_at.false))
