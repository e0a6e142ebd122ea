-- The place of the formal among those that are bound is that of its binding.
use Rattle.std.proofs.Common.{◌∙◌, ap}
use Rattle.blif_flat.specs.Sites.{Sited, actual_of}
use Rattle.blif_flat.proofs.SiteLemmas.{actual_read, actual_unread}
use Rattle.blif_flat.proofs.site.Site.actual.Goals as goal

pub returns-in-Some : goal.returns-in-Some
returns-in-Some c =
    actual_read c.self.inside.bindings.now c.self.inside.formals c.args.name.now c.in-Some.place c.index-self-place.result c.self.invariant c.in-Some.ensures
    ∙ ap (λ (s : Sited). actual_of s.bindings c.args.name.now) c.self.view_is

pub returns-in-None : goal.returns-in-None
returns-in-None c =
    actual_unread c.self.inside.bindings.now c.self.inside.formals c.args.name.now c.self.invariant c.in-None.ensures
    ∙ ap (λ (s : Sited). actual_of s.bindings c.args.name.now) c.self.view_is
