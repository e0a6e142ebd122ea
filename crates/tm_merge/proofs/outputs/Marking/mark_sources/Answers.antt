-- The source of one signal more is marked.
use Rattle.std.proofs.Common.{◌<◌, length, arith}
use Rattle.tm_merge.proofs.LeadingLemmas.{sources_next}
use Rattle.tm_merge.proofs.outputs.Marking.mark_sources.Goals as goal

pub loop-s-preserved : goal.loop-s-preserved
loop-s-preserved c =
    let within : c.loop-s.s-index < length c.args.signals.now = omega arith in
    sources_next c.args.circuit.now c.args.signals.now c.loop-s.s-index c.s-item.result c.args.self.now c.loop-s.self c.mark_source.new.self within c.s-item.is
    c.loop-s.invariant c.in_ok-mark_source.ensures
