-- the numbers are low
use Rattle.std.proofs.Common.{◌≡◌, ◌≤◌, ℕ, List, map, length, get_or, ap, sym, subst, ◌∙◌, arith}
use Rattle.std.proofs.lemmas.List.{length-map}
use Rattle.tm_circuit.specs.Plain.{input_count}
use Rattle.tm_unroll.specs.Mappings.{table_of}
use Rattle.tm_net.proofs.EndLemmas.{end_near, gates_inside}
use Rattle.tm_net.proofs.NumberLemmas.{low_numbers, firsts_over, after_registers}
use Rattle.tm_net.proofs.layout.Layout.new.Goals as goal

pub first_registers-requires-clause-near : goal.first_registers-requires-clause-near
first_registers-requires-clause-near c =
    subst (λ (ends : List ℕ). (s : ℕ) → get_or ends s 0 ≤ 8) (sym c.deref-3.ensures.value)
    (end_near c.args.circuit.now (map table_of c.args.luts.now) c.in_ok-ends.ends.items c.requires c.in_ok-ends.ensures)

pub first_registers-requires-clause-few : goal.first_registers-requires-clause-few
first_registers-requires-clause-few c =
    let low = low_numbers c.args.circuit.now (map table_of c.args.luts.now) c.in_ok-lows.lows.items c.in_ok-ends.ends.items c.signals-signals.ensures.sound c.requires c.in_ok-ends.ensures in
    let inputs = low.inputs in
    let signals = low.signals in
    let long = ap (λ (xs : List ℕ). length xs) c.deref-2.ensures.value in
    let sized = c.in_ok-lows.ensures.chained.sized in
    omega (arith, inputs, signals, long, sized, c.inputs.ensures)

pub tops-requires-clause-gates : goal.tops-requires-clause-gates
tops-requires-clause-gates c =
    let count = c.signals-signals.ensures.count in
    λ k d inside. let low = gates_inside c.args.circuit.now c.args.luts.now c.requires k d inside in omega (arith, low, count)

pub tops-requires-clause-few : goal.tops-requires-clause-few
tops-requires-clause-few c =
    let lows = c.in_ok-lows.lows.items in
    let ends = c.in_ok-ends.ends.items in
    let n = length c.args.circuit.now.drives in
    let low = low_numbers c.args.circuit.now (map table_of c.args.luts.now) lows ends c.signals-signals.ensures.sound c.requires c.in_ok-ends.ensures in
    let inputs = low.inputs in
    let roots = low.roots in
    let registers = low.registers n (omega arith) in
    let firsts = firsts_over c.inputs.result (input_count c.args.circuit.now.drives) n c.deref-2.result.now c.deref-3.result.now lows ends c.in_ok-firsts.firsts.items c.in_ok-firsts.ensures
    c.inputs.ensures c.deref-2.ensures.value c.deref-3.ensures.value c.in_ok-lows.ensures.chained.sized in
    let place : c.len.result ≡ n = c.len.ensures ∙ (c.in_ok-lows.lows.ok.0 ∙ c.in_ok-lows.ensures.chained.sized) in
    let root = after_registers (input_count c.args.circuit.now.drives) lows ends n c.in_ok-firsts.firsts.items c.len.result c.index-roots.result.now firsts place c.index-roots.ensures in
    let long = length-map c.args.luts.now table_of in
    omega (arith, inputs, roots, registers, root, long)
