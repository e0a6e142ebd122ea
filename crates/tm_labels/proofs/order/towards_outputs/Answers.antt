-- No step yet, and then one find after another.
use Rattle.std.proofs.Common.{◌≡◌, replicate, ◌∙◌, ap, rules}
use Rattle.tm_labels.specs.Ways.{no_gate}
use Rattle.tm_labels.proofs.WayLemmas.{steps_none}
use Rattle.tm_labels.proofs.order.towards_outputs.Goals as goal

pub find_outputs-requires : goal.find_outputs-requires
find_outputs-requires c =
    let circuit = c.args.circuit.now in
    let all : c.in_ok-towards.towards.items ≡ replicate c.signals.result no_gate = c.in_ok-towards.ensures.items_if_clones_equal (λ y clone. search rules) in
    steps_none circuit c.deref_mut.result.now (c.deref_mut.ensures.value ∙ all ∙ ap (λ n. replicate n no_gate) c.signals.ensures.count)
