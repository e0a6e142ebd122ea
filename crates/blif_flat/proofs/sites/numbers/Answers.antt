use Rattle.std.proofs.Common.{◌∙◌, map, ap}
use Rattle.std.proofs.lemmas.List.{take_all}
use Rattle.blif_flat.specs.Sites.{Sited}
use Rattle.blif_flat.proofs.PlanLemmas.{collected}
use Rattle.blif_flat.proofs.sites.numbers.Goals as goal

pub loop-site-preserved : goal.loop-site-preserved
loop-site-preserved c =
    collected (λ (s : Sited). s.model) c.args.sites.now c.loop-site.site-index c.site-item.result c.loop-site.numbers.items c.push.new.self.items c.model.result
    c.loop-site-test.true c.site-item.is c.model.ensures c.loop-site.invariant c.in_ok-push.ensures.items

pub returns : goal.returns
returns c = c.loop-site.invariant ∙ ap (map (λ (s : Sited). s.model)) (take_all c.loop-site.site-index c.args.sites.now c.loop-site-test.false)
