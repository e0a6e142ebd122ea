-- A leaf has the words of its place, and any other node those that it asks for of the nodes before it.
use Rattle.std.proofs.Common.{sym, subst, arith}
use Rattle.tm_unroll.proofs.ListLemmas.{contains-at, at-within}
use Rattle.tm_cone.specs.Values.{HasValue}
use Rattle.tm_cone.proofs.OrderLemmas.{nodes_in, node_at_place, node_is_ready}
use Rattle.tm_cone.proofs.ValueLemmas.{leaf_value, node_value, values_more, read_at}
use Rattle.tm_cone.specs.Values.{words_in}
use Rattle.tm_cone.proofs.values.cone_values.Goals as goal
use Rattle.tm_cone.proofs.values.cone_values.Goals.{in-Some, in-None+in_ok-words-in-None}

pub node_words-requires-clause-signal : goal.node_words-requires-clause-signal
node_words-requires-clause-signal c =
    let here = node_at_place c.args.steps.now c.loop-step.step-index c.step-item.result (omega arith) c.step-item.is in
    c.requires.order.signals c.step-item.result.node (contains-at (nodes_in c.args.steps.now) c.loop-step.step-index c.step-item.result.node here)

pub node_words-requires-clause-goes_on : goal.node_words-requires-clause-goes_on
node_words-requires-clause-goes_on c =
    let here = node_at_place c.args.steps.now c.loop-step.step-index c.step-item.result (omega arith) c.step-item.is in
    (node_is_ready c.args.circuit.now.drives c.args.leaves.now (nodes_in c.args.steps.now) c.loop-step.step-index c.step-item.result.node c.requires.order here c.in-None.ensures).0

pub node_words-requires-clause-known : goal.node_words-requires-clause-known
node_words-requires-clause-known c =
    let here = node_at_place c.args.steps.now c.loop-step.step-index c.step-item.result (omega arith) c.step-item.is in
    let ready = node_is_ready c.args.circuit.now.drives c.args.leaves.now (nodes_in c.args.steps.now) c.loop-step.step-index c.step-item.result.node c.requires.order here c.in-None.ensures in
    λ x read. c.loop-step.invariant.known x (ready.1 x read)

pub loop-step-preserved : goal.loop-step-preserved
loop-step-preserved c =
    let drives = c.args.circuit.now.drives in
    let leaves = c.args.leaves.now in
    let nodes = nodes_in c.args.steps.now in
    let i = c.loop-step.step-index in
    let x = c.step-item.result.node in
    let here = node_at_place c.args.steps.now i c.step-item.result (omega arith) c.step-item.is in
    let value : HasValue drives leaves x c.match-leaf_index.words =
    elim c.match-leaf_index.branch [
      | in-Some w ↦ subst (λ words. HasValue drives leaves x words) (sym w.words-is)
          (leaf_value drives leaves w.in-Some.index x w.place_words-words.result c.requires.few w.in-Some.ensures w.place_words-words.ensures)
      | in-None+in_ok-words-in-None w ↦ subst (λ words. HasValue drives leaves x words) (sym w.words-is)
          (let ready = node_is_ready drives leaves nodes i x c.requires.order here w.in-None.ensures in
          node_value drives leaves x (words_in c.loop-step.values) w.in_ok-words-in-None.words c.requires.few w.in-None.ensures ready.0
          (λ y read. c.loop-step.invariant.right y (ready.1 y read)) w.in_ok-words-in-None.ensures)
    ] in
    values_more drives leaves x c.match-leaf_index.words c.loop-step.values c.insert.new.self (record { each = c.in_ok-insert.ensures.updates.0 }) nodes i c.loop-step.invariant
    (at-within nodes i x here) (read_at nodes i x here) value
