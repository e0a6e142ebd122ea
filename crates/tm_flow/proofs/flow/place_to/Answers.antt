use Rattle.std.proofs.Common.{nat_lt, true≢false, sym, ◌∙◌, rules}
use Rattle.std.proofs.lemmas.List.Sorted.{IsPartitionPoint-from_clause}
use Rattle.tm_flow.proofs.FlowLemmas.{parted_to}
use Rattle.tm_flow.proofs.ToLemmas.{edge_absent}
use Rattle.tm_flow.proofs.flow.place_to.Goals as goal

pub returns-then-comes_to-clause-found : goal.returns-then-comes_to-clause-found
returns-then-comes_to-clause-found g c = c.comes_to.ensures.0 c.if-comes_to.true

pub returns-else-comes_to-clause-absent : goal.returns-else-comes_to-clause-absent
returns-else-comes_to-clause-absent g c =
    let n = g.N.LazyNet.shape c.args.net.now in
    let falls = g.met.N.LazyNet.rank_falls c.args.net.now in
    let point = IsPartitionPoint-from_clause (λ e. nat_lt (n.rank c.args.node) (n.rank e.to)) c.args.walk.now c.partition_point-place.result
    c.partition_point-place.ensures.partitioned (parted_to n falls (n.rank c.args.node) c.args.walk.now c.requires.0 c.requires.1) (λ a r f k. search rules) in
    edge_absent n g.N.Node.PartialEq.eq g.met.N.LazyNet.same_if_equal g.met.N.Node.Eq.laws.refl falls c.args.walk.now c.requires.0 c.args.node c.partition_point-place.result c.requires.1 point
    (λ here. true≢false (sym (c.comes_to.ensures.1 here) ∙ c.if-comes_to.false))
