use Rattle.std.proofs.Common.{◌≡◌, ◌++◌, [], ◌<◌, length, subst, sym, ◌∙◌, arith, option_to_list}
use Rattle.std.proofs.lemmas.List.{append-nil}
use Rattle.tm_flow.specs.Lists.{lists_in}
use Rattle.tm_flow.specs.Flows.{all_edges_to}
use Rattle.tm_flow.specs.Searches.{near, IsStep, IsMarked, Follows, Meets}
use Rattle.tm_flow.proofs.PlaceLemmas.{at_within, at_named}
use Rattle.tm_flow.proofs.SearchLemmas.{ok_as, if_ok_as, meets_wait, far_is, near_is}
use Rattle.tm_flow.proofs.UseLemmas.{unused_free}
use Rattle.tm_flow.proofs.search.meet_next.Goals as goal

pub index-requires : goal.index-requires
index-requires g c = omega (arith, at_within c.args.memory.now.search.met.nodes.keys c.args.number c.args.side.node c.requires.number, c.requires.numbered.even)

pub edges_into-requires-clause-unused : goal.edges_into-requires-clause-unused
edges_into-requires-clause-unused g c =
    let met = c.args.memory.now.search.met in
    let lt : c.args.number < length met.marks.items = omega (arith, at_within met.nodes.keys c.args.number c.args.side.node c.requires.number, c.requires.numbered.even) in
    unused_free g.N.Node.PartialEq.eq g.met.N.LazyNet.same_if_equal met.nodes.keys met.marks.items (lists_in c.args.walks.now) c.args.side.node c.args.number c.index.result.now
    c.requires.numbered c.requires.used c.requires.number (at_named met.marks.items c.args.number c.index.result.now lt c.index.ensures)

pub returns-then-side-clause-meets : goal.returns-then-side-clause-meets
returns-then-side-clause-meets g c =
    let n = g.N.LazyNet.shape c.args.net.now in
    let edges = all_edges_to g.N.Node.PartialEq.eq c.args.side.node (lists_in c.args.walks.now) in
    let old = c.args.memory.now.search in
    let new = c.meet_from_far.new.search in
    let deep : c.len-depth.result ≡ length c.args.memory.now.way.items = omega (arith, c.len-depth.ensures, c.args.memory.now.way.ok) in
    meets_wait (new.pending.items ++ []) (append-nil new.pending.items)
    (subst (λ d. Meets (λ s t. IsStep n edges c.args.side t s) d old.met.nodes.keys old.met.marks.items old.pending.items new.met.nodes.keys new.met.marks.items new.pending.items) deep
    (subst (λ p. Meets (λ s t. IsStep n edges p t s) c.len-depth.result old.met.nodes.keys old.met.marks.items old.pending.items new.met.nodes.keys new.met.marks.items new.pending.items)
    (sym (far_is c.args.side c.if-side.true)) (c.in_ok-meet_from_far.ensures.meets edges)))

pub returns-then-side-clause-follows : goal.returns-then-side-clause-follows
returns-then-side-clause-follows g c =
    let n = g.N.LazyNet.shape c.args.net.now in
    let edges = all_edges_to g.N.Node.PartialEq.eq c.args.side.node (lists_in c.args.walks.now) in
    subst (Follows n edges (IsMarked c.meet_from_far.new.search.met.nodes.keys c.meet_from_far.new.search.met.marks.items)) (sym (far_is c.args.side c.if-side.true))
    (c.in_ok-meet_from_far.ensures.follows edges)

pub returns-clause-meets : goal.returns-clause-meets
returns-clause-meets g c =
    let n = g.N.LazyNet.shape c.args.net.now in
    let edges = all_edges_to g.N.Node.PartialEq.eq c.args.side.node (lists_in c.args.walks.now) in
    let old = c.args.memory.now.search in
    let new = c.meet_from_near.new.search in
    let deep : c.len-depth.result ≡ length c.args.memory.now.way.items = omega (arith, c.len-depth.ensures, c.args.memory.now.way.ok) in
    if_ok_as c.meet_from_near.result
    (λ hand m. subst (λ d. Meets (λ s t. IsStep n edges c.args.side t s) d old.met.nodes.keys old.met.marks.items old.pending.items
    new.met.nodes.keys new.met.marks.items (new.pending.items ++ option_to_list hand)) deep
    (subst (λ p. Meets (λ s t. IsStep n edges p t s) c.len-depth.result old.met.nodes.keys old.met.marks.items old.pending.items
    new.met.nodes.keys new.met.marks.items (new.pending.items ++ option_to_list hand))
    (sym (near_is c.args.side c.if-side.false))
    (subst (λ es. Meets (λ s t. IsStep n es (near c.args.side.node) t s) c.len-depth.result old.met.nodes.keys old.met.marks.items old.pending.items
    new.met.nodes.keys new.met.marks.items (new.pending.items ++ option_to_list hand)) (c.as_slice.ensures.value ∙ c.in_ok-edges_into.ensures) m)))
    c.meet_from_near.ensures.meets

pub returns-clause-follows : goal.returns-clause-follows
returns-clause-follows g c =
    let n = g.N.LazyNet.shape c.args.net.now in
    let edges = all_edges_to g.N.Node.PartialEq.eq c.args.side.node (lists_in c.args.walks.now) in
    let new = c.meet_from_near.new.search in
    ok_as c.meet_from_near.result
    (λ m. subst (Follows n edges (IsMarked new.met.nodes.keys new.met.marks.items)) (sym (near_is c.args.side c.if-side.false))
    (subst (λ es. Follows n es (IsMarked new.met.nodes.keys new.met.marks.items) (near c.args.side.node)) (c.as_slice.ensures.value ∙ c.in_ok-edges_into.ensures) m))
    c.meet_from_near.ensures.follows
