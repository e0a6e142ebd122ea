use Rattle.std.proofs.Common.{◌≡◌, ◌∙◌, refl, map, sym, ap, not, bytes_eq}
use Rattle.std.specs.List.{list_any}
use Rattle.blif_unit.proofs.NameLemmas.{list_any-map, put-map}
use Rattle.blif_unit.proofs.names.Names.insert.Goals as goal

pub returns-clause-added : goal.returns-clause-added
returns-clause-added c =
    let test = bytes_eq c.args.name.now in
    let seen : list_any (λ k. test k.now) c.self.inside.set.keys ≡ list_any test c.args.self.now
    = sym (list_any-map (λ k. k.now) test c.self.inside.set.keys) ∙ ap (list_any test) c.self.view_is in
    c.in_ok-insert.ensures.added ∙ ap not seen

pub returns-clause-names : goal.returns-clause-names
returns-clause-names c =
    let test = bytes_eq c.args.name.now in
    let seen : list_any (λ k. test k.now) c.self.inside.set.keys ≡ list_any test c.args.self.now
    = sym (list_any-map (λ k. k.now) test c.self.inside.set.keys) ∙ ap (list_any test) c.self.view_is in
    ap (λ ks. map (λ k. k.now) ks) c.in_ok-insert.ensures.keys
    ∙ put-map (λ k. k.now) (list_any (λ k. test k.now) c.self.inside.set.keys) c.self.inside.set.keys c.args.name
    ∙ rw (seen, c.self.view_is) refl
