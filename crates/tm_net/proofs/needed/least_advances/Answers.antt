-- the leaves of one table more
use Rattle.std.proofs.Common.{◌≡◌, ◌+◌, ◌<◌, ℕ, List, ◌++◌, map, length, take, drop, sym, subst, ◌∙◌, arith}
use Rattle.std.specs.Prelude.{All}
use Rattle.std.proofs.lemmas.List.{take_at, take_all, length-map}
use Rattle.tm_unroll.specs.declared.node.Node.{Node}
use Rattle.tm_unroll.specs.Nodes.{node_at}
use Rattle.tm_unroll.specs.Mappings.{Table, table_of}
use Rattle.tm_net.specs.Registers.{AreLows, Lowers}
use Rattle.tm_net.proofs.NeedLemmas.{leaves_of, lowers_next, leaves_inside, all_least}
use Rattle.tm_net.proofs.needed.least_advances.Goals as goal

pub need_leaves-requires-clause-signals : goal.need_leaves-requires-clause-signals
need_leaves-requires-clause-signals c =
    subst (λ (xs : List Node). All (λ (x : Node). x.signal < length c.args.circuit.now.drives) xs) (sym c.as_slice.ensures)
    (leaves_inside c.args.circuit.now c.args.luts.now c.requires.mapping c.loop-lut.lut-index c.lut-item.result c.loop-lut-test.true c.lut-item.is)

pub loop-lut-preserved : goal.loop-lut-preserved
loop-lut-preserved c =
    let i = c.loop-lut.lut-index in
    let items = c.loop-lut.lows.items in
    let made = c.need_leaves.new.lows in
    let outs : List Node = map (λ s. node_at 0 s) c.args.circuit.now.outputs in
    let sized : length made ≡ c.loop-lut.lows.len = c.need_leaves.ensures.lows.sized ∙ (sym c.loop-lut.invariant.lows.sized ∙ sym c.loop-lut.lows.ok.0) in
    let back : take c.loop-lut.lows.len (made ++ drop (length made) items) ≡ made = take_at made (drop (length made) items) c.loop-lut.lows.len sized in
    let one : Lowers c.args.circuit.now c.lut-item.result.leaves.items items made =
    subst (λ (xs : List Node). Lowers c.args.circuit.now xs items made) c.as_slice.ensures
    (subst (λ (old : List ℕ). Lowers c.args.circuit.now c.as_slice.result.now old made) c.deref_mut-in-loop-lut.ensures.value c.need_leaves.ensures.lowers) in
    record {
      lows = subst (λ (es : List ℕ). AreLows c.args.circuit.now es) (sym back) c.need_leaves.ensures.lows;
      lowers = subst (λ (es : List ℕ). Lowers c.args.circuit.now (outs ++ leaves_of (take (i + 1) (map table_of c.args.luts.now))) c.args.ends.now es) (sym back)
          (lowers_next c.args.circuit.now c.args.luts.now i c.lut-item.result outs c.args.ends.now items made c.loop-lut-test.true c.lut-item.is c.loop-lut.invariant.lowers one);
    }

pub returns : goal.returns
returns c =
    let tables : List Table = map table_of c.args.luts.now in
    let all : take c.loop-lut.lut-index tables ≡ tables = take_all c.loop-lut.lut-index tables (let long = length-map c.args.luts.now table_of in omega (arith, long, c.loop-lut-test.false)) in
    all_least c.args.circuit.now tables c.args.ends.now c.loop-lut.lows.items c.signals-sound.ensures.sound c.requires.mapping c.requires.ends c.loop-lut.invariant.lows
    (subst (λ (ts : List Table). Lowers c.args.circuit.now (map (λ s. node_at 0 s) c.args.circuit.now.outputs ++ leaves_of ts) c.args.ends.now c.loop-lut.lows.items) all c.loop-lut.invariant.lowers)
