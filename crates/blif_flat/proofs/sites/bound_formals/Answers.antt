use Rattle.blif_flat.proofs.BoundLemmas.{apart_more, all_apart}
use Rattle.blif_flat.proofs.sites.bound_formals.Goals as goal

pub loop-binding-preserved : goal.loop-binding-preserved
loop-binding-preserved c =
    apart_more c.args.bindings.now c.loop-binding.binding-index c.binding-item.result c.loop-binding.formals c.insert.new.self c.bytes.result.now c.in_ok-insert.field-0
    c.loop-binding-test.true c.binding-item.is c.bytes.ensures c.loop-binding.invariant c.if-not-branch.false c.in_ok-insert.ensures.added c.in_ok-insert.ensures.names

pub returns : goal.returns
returns c = all_apart c.args.bindings.now c.loop-binding.binding-index c.loop-binding.formals c.loop-binding-test.false c.loop-binding.invariant
