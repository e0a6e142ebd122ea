-- The walks of the drop, with the way in front.
use Rattle.std.proofs.Common.{◌≡◌, ◌≤◌, ◌-◌, ◌++◌, ℕ, List, map, sym, ◌∙◌, ap, subst, arith}
use Rattle.std.proofs.lemmas.Grind.{common_steps}
use Rattle.tm_flow.specs.Lists.{lists_in}
use Rattle.tm_flow.specs.Cuts.{IsBarrier}
use Rattle.tm_unroll.specs.declared.node.Node.{Node}
use Rattle.tm_unroll.specs.Nodes.{node_at}
use Rattle.tm_replay.specs.Served.{most_advance, served}
use Rattle.tm_inherit.specs.Reads.{way_to}
use Rattle.tm_inherit.proofs.ReadLemmas.{read_within}
use Rattle.tm_inherit.proofs.WayLemmas.{unserved_hands_on}
use Rattle.tm_inherit.proofs.inherited.taken_over.Goals as goal

pub serves_from-requires : goal.serves_from-requires
serves_from-requires c = read_within c.args.circuit.now c.signals-sound.ensures.sound c.args.aim.now.gate c.args.aim.now.lag c.args.read.now c.requires.gate c.requires.read

pub returns : goal.returns
returns c =
    let a = c.args.aim.now in
    let r = c.args.read.now in
    let d = c.args.drop.now in
    let circuit = c.args.circuit.now in
    let low : a.lag ≤ most_advance = omega arith in
    let lag : d.lag ≡ r.node.advance = c.if-drop-node.false in
    let gate : d.gate ≡ r.node.signal = let told = c.ne.ensures in let same = c.if-ne.false in grind (arith, common_steps, told, same) in
    let here : node_at d.lag d.gate ≡ r.node = ap (λ l. node_at l d.gate) lag ∙ ap (λ g. node_at r.node.advance g) gate in
    let barrier : IsBarrier (served a.base circuit c.args.labels.now (d.arrival - 1)) r.node a.k (lists_in d.walks.items) =
    subst (λ (y : Node). IsBarrier (served a.base circuit c.args.labels.now (d.arrival - 1)) y a.k (lists_in d.walks.items)) here c.requires.last in
    let walks : lists_in c.in_ok-walks.walks.items ≡ map (λ (w : List ℕ). way_to a.lag r ++ w) (lists_in d.walks.items) =
    c.in_ok-walks.ensures ∙ ap (λ ws. map (λ (w : List ℕ). way_to a.lag r ++ w) (lists_in ws)) c.deref.ensures.value in
    record {
      least = c.if-arrival-aim.false;
      most = c.if-aim-arrival.false;
      barrier = subst (λ (ws : List (List ℕ)). IsBarrier (served a.base circuit c.args.labels.now (d.arrival - 1)) (node_at a.lag a.gate) a.k ws) (sym walks)
          (unserved_hands_on a.base circuit c.signals-sound.ensures.sound c.args.labels.now (d.arrival - 1) a.gate a.lag a.k (lists_in d.walks.items) r c.requires.gate low c.requires.read
          (sym c.serves_from.ensures ∙ c.if-serves_from.false) barrier);
    }
