use Rattle.std.proofs.Common.{◌≡◌, ◌++◌, [], length-append, ◌∷◌, map, subst, sym, ap, ◌∙◌, arith}
use Rattle.std.proofs.lemmas.List.{map-append, length-map}
use Rattle.tm_flow.specs.Lists.{Has, Each}
use Rattle.tm_flow.specs.Flows.{Leads, all_edges_to}
use Rattle.tm_flow.specs.Searches.{Uses}
use Rattle.tm_flow.specs.Starts.{IsBegun}
use Rattle.tm_flow.proofs.ListLemmas.{each_as}
use Rattle.tm_flow.proofs.ToLemmas.{flow_more}
use Rattle.tm_flow.proofs.UseLemmas.{known_more}
use Rattle.tm_flow.proofs.known.keep.Goals as goal

pub goes_with-requires : goal.goes_with-requires
goes_with-requires g c =
    let n = g.N.LazyNet.shape c.args.net.now in
    let root = c.requires.0 in
    subst (λ l. Each (λ w. (x : g.row.N-Node.Denot) × Leads n x w) (map (λ w. w.items) l)) (sym c.as_slice.ensures.value)
    (each_as (Leads n root) (λ w. (x : g.row.N-Node.Denot) × Leads n x w) (λ w l. (root, l)) (map (λ w. w.items) c.args.walks.now.items) c.requires.2.flow.walks)

pub returns : goal.returns
returns g c root leads begun =
    let n = g.N.LazyNet.shape c.args.net.now in
    let eq = g.N.Node.PartialEq.eq in
    let ws = map (λ w. w.items) c.args.walks.now.items in
    let walk = c.args.walk.items in
    let old = c.args.met.now in
    let new = c.use_walk.new.met in
    let joined : map (λ w. w.items) c.push.new.self.items ≡ ws ++ walk ∷ [] =
    ap (map (λ w. w.items)) c.in_ok-push.ensures.items ∙ map-append (λ w. w.items) c.args.walks.now.items (c.args.walk ∷ []) in
    let uses : Uses (Has (map (λ e. e.to) walk)) old.nodes.keys old.marks.items new.nodes.keys new.marks.items =
    subst (λ l. Uses (Has (map (λ e. e.to) l)) old.nodes.keys old.marks.items new.nodes.keys new.marks.items) c.as_slice-3.ensures.value c.in_ok-use_walk.ensures in
    subst (IsBegun n eq root c.args.k new.nodes.keys new.marks.items) (sym joined)
    (record {
      flow = flow_more n eq g.met.N.LazyNet.same_if_equal g.met.N.Node.Eq.laws.refl (g.met.N.LazyNet.rank_falls c.args.net.now) root ws walk begun.flow leads
          (λ e h may. subst (λ l. all_edges_to eq e.to (map (λ w. w.items) l) ≡ []) c.as_slice.ensures.value
          (c.goes_with.ensures c.if-not-goes_with.false e (subst (λ l. Has l e) (sym c.as_slice-2.ensures.value) h) may));
      few = omega (arith, length-append ws (walk ∷ []), length-map c.args.walks.now.items (λ w. w.items), c.len.ensures, c.args.walks.now.ok);
      known = known_more n root ws walk old.nodes.keys new.nodes.keys old.marks.items new.marks.items begun.known leads uses;
    })
