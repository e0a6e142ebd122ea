use Rattle.std.proofs.Common.{◌∙◌, sym, ap, bytes_eq, position}
use Rattle.blif_unit.proofs.NameLemmas.{position-map}
use Rattle.blif_unit.proofs.names.Names.position.Goals as goal

pub returns : goal.returns
returns c = c.get_index_of.ensures.index ∙ sym (position-map (λ k. k.now) (bytes_eq c.args.name.now) c.self.inside.set.keys)
    ∙ ap (position (bytes_eq c.args.name.now)) c.self.view_is
