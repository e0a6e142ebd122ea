use Rattle.std.proofs.Common.{◌+◌, ◌-◌, arith}
use Rattle.std.proofs.lemmas.List.FromFn.{map-range_with_len_more}
use Rattle.tm_make.specs.SampleCircuit.{gate_signal}
use Rattle.tm_make.proofs.parts.outputs.Goals as goal

pub loop-index-preserved : goal.loop-index-preserved
loop-index-preserved c =
    let n = c.args.number in
    let more = map-range_with_len_more (gate_signal n) (n - 8) c.loop-index.index (n - 8 + c.loop-index.index) (omega arith) in
    cc (c.in_ok-push.ensures.items, more, c.loop-index.invariant)
