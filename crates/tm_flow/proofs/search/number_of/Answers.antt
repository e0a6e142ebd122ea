use Rattle.std.proofs.Common.{◌++◌, [], ◌∷◌, sym, ap, ◌∙◌}
use Rattle.std.specs.List.{list_any}
use Rattle.tm_flow.proofs.MarkLemmas.{names_old, names_new, key_old, key_new, not_true, not_false, stored_at, absent_key}
use Rattle.tm_flow.proofs.search.number_of.Goals as goal

pub returns-in_ok-push-in-Ok : goal.returns-in_ok-push-in-Ok
returns-in_ok-push-in-Ok g c =
    let eq = g.N.Node.PartialEq.eq in
    let ks = c.args.met.now.nodes.keys in
    let fresh = not_true (list_any (eq c.args.node) ks) (sym c.if-is_new.true ∙ c.in-Ok.ensures.added) in
    names_new c.args.node c.in-Ok.number ks c.args.met.now.marks.items c.insert_full.new.self.keys c.push.new.self.items c.requires
    (key_new eq ks c.insert_full.new.self.keys c.args.node fresh c.in-Ok.ensures.keys)
    (c.in_ok-push-in-Ok.ensures.items ∙ ap (λ m. c.args.met.now.marks.items ++ m ∷ []) c.none.ensures)
    (stored_at eq g.met.N.LazyNet.same_if_equal c.insert_full.new.self.keys c.in-Ok.number c.args.node c.in-Ok.ensures.stored)
    (absent_key eq g.met.N.Node.Eq.laws.refl ks c.args.node fresh)

pub returns-else-is_new : goal.returns-else-is_new
returns-else-is_new g c =
    let eq = g.N.Node.PartialEq.eq in
    let ks = c.args.met.now.nodes.keys in
    names_old c.args.node c.in-Ok.number ks c.args.met.now.marks.items c.insert_full.new.self.keys c.requires
    (key_old eq ks c.insert_full.new.self.keys c.args.node (not_false (list_any (eq c.args.node) ks) (sym c.if-is_new.false ∙ c.in-Ok.ensures.added)) c.in-Ok.ensures.keys)
    (stored_at eq g.met.N.LazyNet.same_if_equal c.insert_full.new.self.keys c.in-Ok.number c.args.node c.in-Ok.ensures.stored)
