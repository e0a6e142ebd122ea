-- The step to an end.
use Rattle.std.proofs.Common.{◌≡◌, ◌≤◌, ◌-◌, List, [], ◌∷◌, ◌++◌, Global, sym, ◌∙◌, ap, subst, arith}
use Rattle.std.specs.Prelude.{Vec}
use Rattle.tm_flow.specs.Lists.{lists_in}
use Rattle.tm_flow.specs.Cuts.{IsBarrier}
use Rattle.tm_unroll.specs.Nodes.{node_at}
use Rattle.tm_replay.specs.Served.{most_advance, served}
use Rattle.tm_inherit.specs.Reads.{way_to}
use Rattle.tm_inherit.proofs.ReadLemmas.{read_within, read_low}
use Rattle.tm_inherit.proofs.WayLemmas.{end_hands_on}
use Rattle.tm_inherit.proofs.inherited.end_refusal.Goals as goal

pub serves_from-requires : goal.serves_from-requires
serves_from-requires c = read_within c.args.circuit.now c.signals-sound.ensures.sound c.args.aim.now.gate c.args.aim.now.lag c.args.read.now c.requires.gate c.requires.read

pub returns : goal.returns
returns c =
    let a = c.args.aim.now in
    let r = c.args.read.now in
    let circuit = c.args.circuit.now in
    let low : a.lag ≤ most_advance = omega arith in
    let low_node = read_low circuit.drives a.gate a.lag r c.requires.read in
    let made : lists_in c.push.new.self.items ≡ (way_to a.lag r ++ []) ∷ [] =
    ap lists_in (c.in_ok-push.ensures.items ∙ ap (λ (ls : List (Vec _ Global)). ls ++ c.in_ok-walk_over.field-0 ∷ []) c.new-walks.ensures.items) ∙ ap (λ (l : List _). l ∷ []) c.in_ok-walk_over.ensures in
    record {
      least = c.requires.most;
      most = omega arith;
      barrier = subst (λ (ws : List (List _)). IsBarrier (served a.base circuit c.args.labels.now (a.target - 1)) (node_at a.lag a.gate) a.k ws) (sym made)
          (end_hands_on a.base circuit c.signals-sound.ensures.sound c.args.labels.now (a.target - 1) a.gate a.lag a.k r c.requires.gate low c.requires.read (omega (arith, low, low_node)) c.requires.end
          (sym c.serves_from.ensures ∙ c.if-serves_from.false));
    }
