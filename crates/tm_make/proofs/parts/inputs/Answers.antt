use Rattle.std.proofs.Common.{arith}
use Rattle.std.proofs.lemmas.List.FromFn.{map-range_with_len_more}
use Rattle.tm_make.specs.Sample.{input_name}
use Rattle.tm_make.proofs.parts.inputs.Goals as goal

pub loop-index-preserved : goal.loop-index-preserved
loop-index-preserved c =
    let more = map-range_with_len_more input_name 0 c.loop-index.index c.loop-index.index (omega arith) in
    cc (c.in_ok-push.ensures.items, c.in_ok-name.ensures, more, c.loop-index.invariant)
