use Rattle.std.proofs.Common.{◌∙◌, map, ap}
use Rattle.std.proofs.lemmas.List.{take_all}
use Rattle.blif_flat.specs.Around.{renamed, context_of}
use Rattle.blif_flat.proofs.PlanLemmas.{collected}
use Rattle.blif_flat.proofs.around.names_in.Goals as goal

pub loop-name-preserved : goal.loop-name-preserved
loop-name-preserved c =
    collected (renamed (context_of c.args.joiner.now c.args.around.now)) c.args.names.now c.loop-name.name-index c.name-item.result c.loop-name.made.items c.push.new.self.items c.in_ok-name_in.field-0
    c.loop-name-test.true c.name-item.is (c.in_ok-name_in.ensures ∙ ap (renamed (context_of c.args.joiner.now c.args.around.now)) c.bytes.ensures) c.loop-name.invariant c.in_ok-push.ensures.items

pub returns : goal.returns
returns c = c.loop-name.invariant ∙ ap (map (renamed (context_of c.args.joiner.now c.args.around.now))) (take_all c.loop-name.name-index c.args.names.now c.loop-name-test.false)
