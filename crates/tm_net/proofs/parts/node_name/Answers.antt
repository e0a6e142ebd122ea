-- the name with a digit
use Rattle.std.proofs.Common.{◌+◌, ℕ, List, [], ◌∷◌, ◌++◌, ap, ◌∙◌}
use Rattle.tm_net.proofs.MakeLemmas.{moved_name}
use Rattle.tm_net.proofs.parts.node_name.Goals as goal

pub returns : goal.returns
returns c =
    c.new.ensures
    ∙ (c.in_ok-push.ensures.items
    ∙ (ap (λ (bytes : List ℕ). bytes ++ (48 + c.args.node.now.advance) ∷ [])
    (c.in_ok-extend_from_slice.ensures.items ∙ (ap (λ (bytes : List ℕ). bytes ++ c.args.joiner.now) (c.in_ok-bytes.ensures.items ∙ c.bytes.ensures)
    ∙ ap (λ (bytes : List ℕ). c.name-own.result.now ++ bytes) c.requires.joiner))
    ∙ moved_name c.args.circuit.now c.args.node.now c.name-own.result.now c.name-own.ensures c.if-node-eq0.false c.requires.near))
