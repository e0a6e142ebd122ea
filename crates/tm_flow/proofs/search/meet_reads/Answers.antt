use Rattle.std.proofs.Common.{◌≡◌, ◌<◌, ◌≤◌, length, subst, sym, ap, ◌∙◌, arith}
use Rattle.tm_flow.specs.Searches.{AreFirstReads}
use Rattle.tm_flow.proofs.SearchLemmas.{meets_on, meets_as, along_is_read, read_all}
use Rattle.tm_flow.proofs.search.meet_reads.Given as given
use Rattle.tm_flow.proofs.search.meet_reads.Goals as goal
use Rattle.tm_flow.proofs.search.meet_reads.Goals.{In_ok-meet_range-2}

-- what was taken down is what the node reads
are : (g : given.Over) (c : In_ok-meet_range-2 g) → AreFirstReads (g.N.LazyNet.shape c.args.net.now) c.args.node ((g.N.LazyNet.shape c.args.net.now).reads c.args.node) c.as_slice-taken.result.now
are g c =
    let n = g.N.LazyNet.shape c.args.net.now in
    subst (AreFirstReads n c.args.node (n.reads c.args.node)) (sym c.as_slice-taken.ensures.value)
    (subst (λ count. AreFirstReads n c.args.node count c.take_reads.new.reads.items) c.reads-count.ensures c.in_ok-take_reads.ensures)

pub up_to_lowest-middle-requires : goal.up_to_lowest-middle-requires
up_to_lowest-middle-requires g c = sym (ap length c.as_slice-taken.ensures.value ∙ c.in_ok-take_reads.ensures.len)

pub meet_range-requires-clause-within : goal.meet_range-requires-clause-within
meet_range-requires-clause-within g c = omega (arith, ap length c.as_slice-taken.ensures.value, c.in_ok-take_reads.ensures.len)

pub meet_range-requires-2-clause-within : goal.meet_range-requires-2-clause-within
meet_range-requires-2-clause-within g c =
    omega (arith, ap length c.as_slice-taken.ensures.value, c.in_ok-take_reads.ensures.len, c.up_to_lowest-middle.ensures)

pub returns-clause-meets : goal.returns-clause-meets
returns-clause-meets g c =
    let n = g.N.LazyNet.shape c.args.net.now in
    meets_as (along_is_read n c.args.node c.as_slice-taken.result.now (are g c)) (meets_on c.in_ok-meet_range.ensures.meets c.in_ok-meet_range-2.ensures.meets)

pub returns-clause-met : goal.returns-clause-met
returns-clause-met g c =
    read_all (g.N.LazyNet.shape c.args.net.now) c.args.node c.as_slice-taken.result.now c.args.depth
    c.meet_range.new.search.met.nodes.keys c.meet_range.new.search.met.marks.items c.meet_range.new.search.pending.items
    c.meet_range-2.new.search.met.nodes.keys c.meet_range-2.new.search.met.marks.items c.meet_range-2.new.search.pending.items c.up_to_lowest-middle.result
    (are g c) (λ i u a l h. c.in_ok-meet_range.ensures.met i u a l (subst (λ count. i < count) (sym c.reads-count.ensures) h))
    c.in_ok-meet_range-2.ensures.meets c.in_ok-meet_range-2.ensures.met
