-- Part by part.
use Rattle.std.proofs.Common.{◌≡◌, List, length, map, sym, ◌∙◌, ap, subst, arith}
use Rattle.std.specs.Prelude.{Contains}
use Rattle.tm_unroll.specs.declared.node.Lut.{Lut}
use Rattle.tm_unroll.specs.Mappings.{table_of}
use Rattle.tm_absorb.specs.declared.under_way.UnderWay.{UnderWay}
use Rattle.tm_absorb.proofs.StartLemmas.{gates_signal, leaves_signal, started, all_wait}
use Rattle.tm_absorb.proofs.under_way.UnderWay.new.Goals as goal

pub slots_of-requires-clause-within : goal.slots_of-requires-clause-within
slots_of-requires-clause-within c =
    rw c.deref.ensures.value (gates_signal c.args.circuit.now c.args.k c.args.d c.signals-signals.result c.args.mapping.now.luts.items c.signals-signals.ensures.count c.requires)

pub readers_of-requires : goal.readers_of-requires
readers_of-requires c = rw c.deref-2.ensures.value (leaves_signal c.args.circuit.now c.args.k c.args.d c.args.mapping.now.luts.items c.requires)

pub returns-clause-state : goal.returns-clause-state
returns-clause-state c =
    let luts = c.args.mapping.now.luts.items in
    let w : UnderWay = record {
      slots = c.in_ok-slots_of.field-0;
      readers = c.in_ok-readers_of.field-0;
      outputs = c.in_ok-output_marks.field-0;
      refusers = c.in_ok-vec.field-0;
      queue = c.in_ok-gates_of.field-0;
    } in
    let count = c.signals-signals.ensures.count in
    started c.args.circuit.now c.args.k c.args.d luts w c.requires c.in_ok-slots_of.ensures.own (c.in_ok-slots_of.ensures.present ∙ ap (map table_of) c.deref.ensures.value)
    (c.in_ok-slots_of.ensures.sized ∙ count) c.in_ok-readers_of.ensures.sized
    (λ lut stands. c.in_ok-readers_of.ensures.all lut (subst (λ (ls : List Lut). Contains ls lut) (sym c.deref-2.ensures.value) stands))
    c.in_ok-output_marks.ensures.sized c.in_ok-output_marks.ensures.marks (omega (arith, c.in_ok-vec.ensures.len, c.in_ok-vec.field-0.ok.0, count))

pub returns-clause-awaited : goal.returns-clause-awaited
returns-clause-awaited c =
    let luts = c.args.mapping.now.luts.items in
    let w : UnderWay = record {
      slots = c.in_ok-slots_of.field-0;
      readers = c.in_ok-readers_of.field-0;
      outputs = c.in_ok-output_marks.field-0;
      refusers = c.in_ok-vec.field-0;
      queue = c.in_ok-gates_of.field-0;
    } in
    all_wait c.args.circuit.now c.args.k c.args.d luts w c.requires c.in_ok-slots_of.ensures.own (c.in_ok-slots_of.ensures.present ∙ ap (map table_of) c.deref.ensures.value)
    (λ lut stands. c.in_ok-gates_of.ensures lut (subst (λ (ls : List Lut). Contains ls lut) (sym c.deref-3.ensures.value) stands))
