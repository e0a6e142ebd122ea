use Rattle.std.proofs.Common.{◌≡◌, false, All, map, subst, sym, arith}
use Rattle.tm_flow.specs.Nets.{IsIndexWalk}
use Rattle.tm_flow.specs.Starts.{IsBegun}
use Rattle.tm_flow.proofs.PlaceLemmas.{each_image}
use Rattle.tm_flow.proofs.WalkLemmas.{known_leads}
use Rattle.tm_flow.proofs.UseLemmas.{known_first}
use Rattle.tm_flow.proofs.known.known_walks.Goals as goal

pub loop-list-init : goal.loop-list-init
loop-list-init g c =
    let n = g.N.LazyNet.shape c.args.net.now in
    let nodes = c.truncate.new.self.keys in
    let marks = c.clear.new.self.items in
    subst (λ l. IsBegun n g.N.Node.PartialEq.eq c.args.root c.args.k nodes marks (map (λ w. w.items) l)) (sym c.new-walks.ensures.items)
    (record {
      flow = record { walks = tt; room = λ v may. omega arith };
      few = omega arith;
      known = known_first n c.args.root nodes marks c.truncate.ensures.keys c.clear.ensures.items;
    })

pub edges_of-requires : goal.edges_of-requires
edges_of-requires g c =
    each_image (λ w. w.items) (IsIndexWalk (g.N.LazyNet.shape c.args.net.now) c.args.root) c.args.known.now c.loop-list.list-index c.list-item.result c.as_slice.result.now
    (omega arith) c.list-item.is c.as_slice.ensures.value c.requires

pub returns-then-is_free : goal.returns-then-is_free
returns-then-is_free g c =
    let n = g.N.LazyNet.shape c.args.net.now in
    let leads = known_leads n (λ w. w.items) c.args.root c.args.known.now c.loop-list.list-index c.list-item.result c.as_slice.result.now c.in_ok-walk.walk.items
    (omega arith) c.list-item.is c.as_slice.ensures.value c.in_ok-walk.ensures c.requires in (
      leads,
      subst (All (λ e. n.may_cut e.to ≡ false)) c.as_slice-in-loop-list.ensures.value (c.is_free.ensures.0 c.if-is_free.true),
    )

pub keep-requires : goal.keep-requires
keep-requires g c =
    let n = g.N.LazyNet.shape c.args.net.now in
    let leads = known_leads n (λ w. w.items) c.args.root c.args.known.now c.loop-list.list-index c.list-item.result c.as_slice.result.now c.in_ok-walk.walk.items
    (omega arith) c.list-item.is c.as_slice.ensures.value c.in_ok-walk.ensures c.requires in
    (c.args.root, leads, c.loop-list.invariant)

pub loop-list-preserved : goal.loop-list-preserved
loop-list-preserved g c =
    let n = g.N.LazyNet.shape c.args.net.now in
    let leads = known_leads n (λ w. w.items) c.args.root c.args.known.now c.loop-list.list-index c.list-item.result c.as_slice.result.now c.in_ok-walk.walk.items
    (omega arith) c.list-item.is c.as_slice.ensures.value c.in_ok-walk.ensures c.requires in
    c.in_ok-keep.ensures c.args.root leads c.loop-list.invariant

pub returns : goal.returns
returns g c = c.loop-list.invariant
