-- the tests on the draft's lists are those of its circuit
use Rattle.tm_circuit.proofs.RangeLemmas.{range_is}
use Rattle.tm_circuit.proofs.build.is_in_range.Goals as goal

pub returns : goal.returns
returns c =
    let tests = rw (c.deref.ensures.value, c.deref-2.ensures.value) at c.are_in_range.ensures in
    let is = range_is c.args.draft.now c.requires in
    (λ t. is.0 (tests.0 t), λ s. tests.1 (is.1 s))
