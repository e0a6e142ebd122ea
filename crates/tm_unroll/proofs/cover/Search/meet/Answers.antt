-- A node that the set adds is new and goes on the stack, and one that it does not add was met before.
use Rattle.std.proofs.Common.{refl}
use Rattle.tm_unroll.specs.Nodes.{node_at}
use Rattle.tm_unroll.proofs.SearchLemmas.{node_eq, node_decides, met_new, met_again}
use Rattle.tm_unroll.proofs.cover.Search.meet.Goals as goal

pub returns-in_ok-push : goal.returns-in_ok-push
returns-in_ok-push c =
    let x = node_at c.args.advance c.args.signal in
    met_new c.args.self.now _ x (λ y. node_eq x y) c.in_ok-is_new.is_new (λ y. node_decides x y) refl c.in_ok-is_new.ensures.added c.in_ok-is_new.ensures.keys
    c.if-is_new.true c.in_ok-push.ensures.items

pub returns-else-is_new : goal.returns-else-is_new
returns-else-is_new c =
    let x = node_at c.args.advance c.args.signal in
    met_again c.args.self.now _ x (λ y. node_eq x y) c.in_ok-is_new.is_new (λ y. node_decides x y) refl c.in_ok-is_new.ensures.added c.in_ok-is_new.ensures.keys
    c.if-is_new.false refl
