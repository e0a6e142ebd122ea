-- one name more
use Rattle.std.proofs.Common.{◌∙◌, ap, ◌++◌, ◌∷◌, []}
use Rattle.tm_report.proofs.Lines.{chain_line_more}
use Rattle.tm_report.proofs.line.chain_line.Goals as goal

pub loop-gate-preserved : goal.loop-gate-preserved
loop-gate-preserved c =
    let more = chain_line_more c.args.circuit.now c.args.chain.now c.loop-gate.gate-index c.gate-item.result c.name.result.now c.loop-gate.line.items c.loop-gate-test.true c.gate-item.is c.name.ensures c.loop-gate.invariant in
    c.in_ok-extend_from_slice.ensures.items ∙ ap (λ xs. xs ++ c.bytes.result.now) c.in_ok-push.ensures.items ∙ ap (λ xs. (c.loop-gate.line.items ++ 32 ∷ []) ++ xs) c.bytes.ensures ∙ more
