use Rattle.std.proofs.Common.{◌∙◌, Vec, ℕ, Global, map, ap}
use Rattle.std.proofs.lemmas.List.{take_all}
use Rattle.blif_flat.specs.Sites.{Sited}
use Rattle.blif_flat.proofs.PlanLemmas.{collected_by}
use Rattle.blif_flat.proofs.sites.graph.Goals as goal

pub loop-placed-preserved : goal.loop-placed-preserved
loop-placed-preserved c =
    collected_by (λ (v : Vec Sited Global). map (λ (s : Sited). s.model) v.items) (λ (v : Vec ℕ Global). v.items) c.args.sites.now c.loop-placed.placed-index c.placed-item.result
    c.loop-placed.graph.items c.push.new.self.items c.in_ok-numbers.field-0 c.loop-placed-test.true c.placed-item.is
    (c.in_ok-numbers.ensures ∙ ap (map (λ (s : Sited). s.model)) c.deref.ensures.value) c.loop-placed.invariant c.in_ok-push.ensures.items

pub returns : goal.returns
returns c = c.loop-placed.invariant ∙ ap (map (λ (v : Vec Sited Global). map (λ (s : Sited). s.model) v.items)) (take_all c.loop-placed.placed-index c.args.sites.now c.loop-placed-test.false)
