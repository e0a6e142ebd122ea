use Rattle.std.proofs.Common.{map, subst, sym, ap, refl, length, ◌∙◌, arith}
use Rattle.std.proofs.lemmas.List.{take_all}
use Rattle.tm_flow.specs.Lists.{Has, At}
use Rattle.tm_flow.specs.Searches.{Uses}
use Rattle.tm_flow.proofs.PlaceLemmas.{at_within, at_same, at_named, each_at}
use Rattle.tm_flow.proofs.UseLemmas.{uses_none, uses_more}
use Rattle.tm_flow.proofs.used.use_way.Goals as goal

pub loop-taken-init : goal.loop-taken-init
loop-taken-init g c = record { nodes = refl; uses = uses_none c.args.met.now.nodes.keys c.args.met.now.marks.items (λ u h. h) c.requires.numbered }

pub use_number-requires-clause-numbered : goal.use_number-requires-clause-numbered
use_number-requires-clause-numbered g c = c.loop-taken.invariant.uses.numbered

pub use_number-requires-clause-within : goal.use_number-requires-clause-within
use_number-requires-clause-within g c =
    let t = c.taken-item.result in
    let here = each_at (λ u. At c.args.met.now.nodes.keys u.number u.side.node) c.args.way.now c.loop-taken.taken-index t c.requires.numbers
    (at_named c.args.way.now c.loop-taken.taken-index t (omega arith) c.taken-item.is) in
    omega (arith, at_within c.args.met.now.nodes.keys t.number t.side.node here, ap length c.loop-taken.invariant.nodes)

pub loop-taken-preserved : goal.loop-taken-preserved
loop-taken-preserved g c =
    let t = c.taken-item.result in
    let nodes = c.loop-taken.met.nodes.keys in
    let here : At nodes t.number t.side.node = subst (λ l. At l t.number t.side.node) (sym c.loop-taken.invariant.nodes)
    (each_at (λ u. At c.args.met.now.nodes.keys u.number u.side.node) c.args.way.now c.loop-taken.taken-index t c.requires.numbers
    (at_named c.args.way.now c.loop-taken.taken-index t (omega arith) c.taken-item.is)) in
    record {
      nodes = c.use_number.ensures.nodes ∙ c.loop-taken.invariant.nodes;
      uses = uses_more (λ u. u.side.node) c.args.way.now c.loop-taken.taken-index t (omega arith) c.taken-item.is
          (λ u q. at_same nodes t.number t.side.node u here q) (λ u e. subst (At nodes t.number) e here) c.loop-taken.invariant.uses c.use_number.ensures.uses;
    }

pub returns-clause-nodes : goal.returns-clause-nodes
returns-clause-nodes g c = c.loop-taken.invariant.nodes

pub returns-clause-uses : goal.returns-clause-uses
returns-clause-uses g c =
    subst (λ l. Uses (Has (map (λ t. t.side.node) l)) c.args.met.now.nodes.keys c.args.met.now.marks.items c.loop-taken.met.nodes.keys c.loop-taken.met.marks.items)
    (take_all c.loop-taken.taken-index c.args.way.now (omega arith)) c.loop-taken.invariant.uses
