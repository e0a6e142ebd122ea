-- after all lags the greatest depth is the period
use Rattle.std.proofs.Common.{ℕ, List, map, length, ap, sym, subst, arith}
use Rattle.tm_unroll.specs.declared.node.Lut.{Lut}
use Rattle.tm_unroll.specs.Mappings.{table_of, IsLawful}
use Rattle.tm_unroll.specs.Depths.{IsMapping}
use Rattle.tm_unroll.proofs.PlaceLemmas.{gates_within}
use Rattle.tm_unroll.proofs.TurnLemmas.{period_is}
use Rattle.tm_unroll.proofs.chains.chain.Goals as goal

pub deepest_table-requires : goal.deepest_table-requires
deepest_table-requires c i lut inside =
    let luts = c.as_slice-luts.result.now in
    let lawful : IsLawful c.args.circuit.now c.args.k c.args.d (map table_of luts) = subst (λ (ls : List Lut). IsLawful c.args.circuit.now c.args.k c.args.d (map table_of ls)) (sym c.as_slice-luts.ensures.value) c.requires.lawful in
    let mapping : IsMapping c.args.circuit.now (map table_of luts) = record { k = c.args.k; d = c.args.d; near = c.requires.near; lawful = lawful } in
    let low = gates_within c.args.circuit.now luts mapping i lut inside in
    let same = ap (λ (xs : List ℕ). length xs) c.deref.ensures.value in
    omega (arith, low, same, c.in_ok-depths.ensures.sized)

pub returns : goal.returns
returns c =
    period_is c.args.circuit.now c.args.k c.args.d c.args.mapping.now.luts.items c.as_slice-luts.result.now c.in_ok-depths.depths.items c.deref.result.now c.deepest_table.result
    c.as_slice-luts.ensures.value c.deref.ensures.value c.requires.lawful c.in_ok-depths.ensures c.deepest_table.ensures
