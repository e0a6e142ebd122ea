-- Table by table.
use Rattle.std.proofs.Common.{◌≡◌, List, subst, arith}
use Rattle.std.specs.Vec.{with_items}
use Rattle.std.proofs.lemmas.List.{with_items_is}
use Rattle.tm_unroll.specs.declared.node.Node.{Node}
use Rattle.tm_absorb.specs.Slots.{IsReader}
use Rattle.tm_absorb.proofs.TakeLemmas.{taken_end}
use Rattle.tm_absorb.proofs.ReaderLemmas.{lists_of, readers_more}
use Rattle.tm_absorb.proofs.readers.readers_of.Goals as goal

pub loop-lut-preserved : goal.loop-lut-preserved
loop-lut-preserved c =
    let drives = c.args.circuit.now.drives in
    let lut = c.lut-item.result in
    let new = c.add_reader.new.readers in
    let is = with_items_is c.loop-lut.readers new (omega (arith, c.add_reader.auto.readers, c.deref_mut.ensures.len)) in
    let reads = subst (λ (leaves : List Node). IsReader drives lut.gate leaves (lists_of new)) c.as_slice.ensures c.in_ok-add_reader.ensures.reads in
    readers_more drives c.args.luts.now c.loop-lut.lut-index lut c.deref_mut.result.now c.loop-lut.readers.items new (with_items c.loop-lut.readers new).items c.loop-lut-test.true c.lut-item.is
    c.deref_mut.ensures.value is c.in_ok-add_reader.ensures.adds reads c.loop-lut.invariant.0 c.loop-lut.invariant.1

pub returns-clause-all : goal.returns-clause-all
returns-clause-all c lut stands = c.loop-lut.invariant.1 lut (taken_end c.args.luts.now c.loop-lut.lut-index lut c.loop-lut-test.false stands)
