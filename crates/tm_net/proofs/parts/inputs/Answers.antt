-- one input more
use Rattle.std.proofs.Common.{◌≡◌, [], ◌∷◌, ◌++◌, map, sym, ap, ◌∙◌, arith}
use Rattle.std.specs.List.{range_with_len}
use Rattle.std.proofs.lemmas.List.FromFn.{map-range_with_len_more}
use Rattle.std.proofs.lemmas.Option.{get_or_from_slice_get}
use Rattle.tm_unroll.specs.Nodes.{node_at}
use Rattle.tm_mapped.specs.Mapped.{node_name}
use Rattle.tm_net.proofs.parts.inputs.Goals as goal

pub loop-s-preserved : goal.loop-s-preserved
loop-s-preserved c =
    let own : c.in_ok-try_clone.field-0 ≡ node_name c.args.circuit.now (node_at 0 c.loop-s.s) =
    c.in_ok-try_clone.ensures ∙ sym (get_or_from_slice_get c.args.circuit.now.names c.loop-s.s c.name.result.now [] c.name.ensures) in
    c.in_ok-push.ensures.items
    ∙ (ap (λ names. names ++ c.in_ok-try_clone.field-0 ∷ []) c.loop-s.invariant
    ∙ (ap (λ name. map (λ s. node_name c.args.circuit.now (node_at 0 s)) (range_with_len 0 c.loop-s.s) ++ name ∷ []) own
    ∙ sym (map-range_with_len_more (λ s. node_name c.args.circuit.now (node_at 0 s)) 0 c.loop-s.s c.loop-s.s (omega arith))))
