-- A cut in order, or digits.
use Rattle.std.proofs.Common.{ℕ, ◌-◌, List, Global, subst, arith}
use Rattle.std.specs.Prelude.{Contains, Vec}
use Rattle.tm_flow.specs.Lists.{lists_in}
use Rattle.tm_flow.specs.Cuts.{IsCut}
use Rattle.tm_flow.specs.Founds.{IsAnswer}
use Rattle.tm_flow.specs.declared.net.Found.{Found}
use Rattle.tm_unroll.specs.declared.node.Node.{Node}
use Rattle.tm_unroll.specs.Nodes.{node_at}
use Rattle.tm_unroll.specs.Replaced.{IsInOrder}
use Rattle.tm_replay.specs.Served.{served}
use Rattle.tm_labels.proofs.StepLemmas.{barrier_digits, cut_in_order}
use Rattle.tm_labels.proofs.find.search_from.Goals as goal

pub digit_lists-requires : goal.digit_lists-requires
digit_lists-requires c w stands =
    let a = c.args.aim.now in
    let barrier = subst (λ (f : Found Node). IsAnswer (served a.base c.args.circuit.now c.args.labels.now (a.arrival - 1)) (node_at a.lag a.gate) c.from.result f) c.in-Walks.is c.in_ok-nodes.ensures in
    barrier_digits a.base c.args.circuit.now c.signals-sound.ensures.sound c.args.labels.now (a.arrival - 1) (node_at a.lag a.gate) c.from.result (lists_in c.in-Walks.walks.items) barrier w
    (subst (λ (vs : List (Vec ℕ Global)). Contains (lists_in vs) w) c.deref-in-Walks.ensures.value stands)

pub returns-in_ok-in_order-in-Cut : goal.returns-in_ok-in_order-in-Cut
returns-in_ok-in_order-in-Cut c =
    let a = c.args.aim.now in
    let net = served a.base c.args.circuit.now c.args.labels.now (a.arrival - 1) in
    let cut = subst (λ (f : Found Node). IsAnswer net (node_at a.lag a.gate) c.from.result f) c.in-Cut.is c.in_ok-nodes.ensures in
    cut_in_order a.base c.args.circuit.now c.signals-sound.ensures.sound c.args.labels.now (a.arrival - 1) a.k a.gate a.lag c.in-Cut.nodes.items c.in_ok-in_order-in-Cut.field-0.items c.requires.gate
    (omega (arith, c.requires.lag)) (subst (λ k. IsCut net (node_at a.lag a.gate) k c.in-Cut.nodes.items) c.from.ensures cut)
    (subst (λ (ns : List Node). IsInOrder ns c.in_ok-in_order-in-Cut.field-0.items) c.deref.ensures.value c.in_ok-in_order-in-Cut.ensures.order)
