-- One table more.
use Rattle.std.proofs.Common.{map, sym, ◌∙◌, ap, arith}
use Rattle.std.proofs.lemmas.List.{take_all}
use Rattle.tm_circuit.proofs.ListLemmas.{contains-map}
use Rattle.tm_unroll.specs.declared.node.Lut.{Lut}
use Rattle.tm_unroll.specs.Mappings.{table_of}
use Rattle.two_way.specs.Mappings.{table_of as two_table_of}
use Rattle.two_way.specs.Amounts.{two_table}
use Rattle.two_way.proofs.MapLemmas.{map_map, alike_more}
use Rattle.two_way.proofs.amounts.two_luts.Goals as goal

pub two_lut-requires-clause-low : goal.two_lut-requires-clause-low
two_lut-requires-clause-low c =
    c.requires.low (table_of c.lut-item.result) (contains-map table_of c.args.luts.now c.lut-item.result (c.loop-lut.lut-index, c.loop-lut-test.true, sym c.lut-item.is))

pub loop-lut-preserved : goal.loop-lut-preserved
loop-lut-preserved c =
    alike_more two_table_of (λ (lut : Lut). two_table c.args.b (table_of lut)) c.args.luts.now c.loop-lut.two.items c.push.new.self.items c.loop-lut.lut-index c.lut-item.result
    c.in_ok-two_lut.field-0 c.loop-lut-test.true c.lut-item.is c.loop-lut.invariant c.in_ok-two_lut.ensures c.in_ok-push.ensures.items

pub returns : goal.returns
returns c =
    c.loop-lut.invariant
    ∙ ap (map (λ (lut : Lut). two_table c.args.b (table_of lut))) (take_all c.loop-lut.lut-index c.args.luts.now (omega (arith, c.loop-lut-test.false)))
    ∙ sym (map_map (two_table c.args.b) table_of c.args.luts.now)
