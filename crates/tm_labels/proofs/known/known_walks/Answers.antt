-- The drop is one of the drops, and of the gate at the lag.
use Rattle.std.proofs.Common.{◌≡◌, inr, map, Option, ◌∙◌, ap, subst, arith}
use Rattle.std.specs.Prelude.{Contains, IfSome}
use Rattle.std.proofs.lemmas.Grind.{common_steps}
use Rattle.tm_flow.specs.Lists.{lists_in}
use Rattle.tm_unroll.specs.Nodes.{node_at}
use Rattle.tm_replay.specs.Replays.{drop_of}
use Rattle.tm_labels.proofs.known.known_walks.Goals as goal

pub returns : goal.returns
returns c =
    let drop = drop_of c.in-Some.drop.now in
    let x = c.args.gate_at_lag in
    let stands : Contains (map drop_of c.args.drops.now) drop = subst (λ (o : Option _). IfSome o (λ d. Contains (map drop_of c.args.drops.now) (drop_of d.now))) c.in-Some.is c.last.ensures.stands in
    let lag : drop.lag ≡ x.advance = c.if-drop-gate_at_lag.false in
    let gate : drop.gate ≡ x.signal = let told = c.ne.ensures in let same = c.if-ne.false in grind (arith, common_steps, told, same) in
    inr (drop, stands, ap (λ l. node_at l drop.gate) lag ∙ ap (λ g. node_at x.advance g) gate, c.in_ok-index_lists.ensures ∙ ap lists_in c.deref-2.ensures.value)
