use Rattle.std.proofs.Common.{◌∙◌, ◌++◌, List, ℕ, Bor, map, ap}
use Rattle.std.proofs.lemmas.List.{take_all}
use Rattle.blif_flat.proofs.FormalLemmas.{pushed_more}
use Rattle.blif_flat.proofs.formals.push_all.Goals as goal

pub loop-name-preserved : goal.loop-name-preserved
loop-name-preserved c =
    pushed_more (λ (x : Bor (List ℕ)). x.now) c.args.inputs.now.items c.loop-name.inputs.items c.push.new.self.items _ c.args.more.now c.loop-name.name-index c.name-item.result
    c.loop-name-test.true c.name-item.is c.bytes.ensures c.loop-name.invariant c.in_ok-push.ensures.items

pub returns : goal.returns
returns c = c.loop-name.invariant ∙ ap (λ ys. map (λ (x : Bor (List ℕ)). x.now) c.args.inputs.now.items ++ ys) (take_all c.loop-name.name-index c.args.more.now c.loop-name-test.false)
