-- one output more
use Rattle.std.proofs.Common.{◌≡◌, ◌+◌, ◌<◌, ℕ, [], ◌∷◌, ◌++◌, List, length, get_or, map, take, sym, subst, ap, ◌∙◌, arith}
use Rattle.std.proofs.lemmas.List.{map_more}
use Rattle.tm_unroll.specs.declared.node.Node.{Node}
use Rattle.tm_unroll.specs.Nodes.{node_at}
use Rattle.tm_net.specs.Registers.{Lowers}
use Rattle.tm_net.proofs.NeedLemmas.{lowers_join}
use Rattle.tm_net.proofs.needed.need_outputs.Goals as goal

pub need-requires-clause-signal : goal.need-requires-clause-signal
need-requires-clause-signal c =
    let i = c.loop-output.output-index in
    let read : c.output-item.result ≡ get_or c.args.circuit.now.outputs i c.output-item.result =
    c.output-item.is ∙ ap (λ (xs : List ℕ). get_or xs i c.output-item.result) c.outputs-output-items.ensures in
    let inside : i < length c.args.circuit.now.outputs = let long = ap (λ (xs : List ℕ). length xs) c.outputs-output-items.ensures in omega (arith, long) in
    let low = c.requires.sound.range.outputs i c.output-item.result inside in
    omega (arith, low, read)

pub loop-output-preserved : goal.loop-output-preserved
loop-output-preserved c =
    let i = c.loop-output.output-index in
    let outs = c.args.circuit.now.outputs in
    let read : c.output-item.result ≡ get_or outs i c.output-item.result =
    c.output-item.is ∙ ap (λ (xs : List ℕ). get_or xs i c.output-item.result) c.outputs-output-items.ensures in
    let inside : i < length outs = let long = ap (λ (xs : List ℕ). length xs) c.outputs-output-items.ensures in omega (arith, long) in
    let more : map (λ s. node_at 0 s) (take (i + 1) outs) ≡ map (λ s. node_at 0 s) (take i outs) ++ node_at 0 c.output-item.result ∷ [] =
    map_more (λ s. node_at 0 s) outs i c.output-item.result inside ∙ ap (λ s. map (λ n. node_at 0 n) (take i outs) ++ node_at 0 s ∷ []) (sym read) in
    record {
      lows = c.need.ensures.lows;
      lowers = subst (λ (xs : List Node). Lowers c.args.circuit.now xs c.args.lows.now c.need.new.lows) (sym more)
          (lowers_join c.args.circuit.now (map (λ s. node_at 0 s) (take i outs)) (node_at 0 c.output-item.result ∷ []) c.args.lows.now c.loop-output.lows c.need.new.lows
          c.loop-output.invariant.lowers c.need.ensures.lowers);
    }
