-- The tables pass up to the first that fails, and then the outputs are looked at.
use Rattle.std.proofs.Common.{◌≡◌, ◌<◌, ◌≤◌, inl, inr, List, map, length, Some, sym, subst, arith}
use Rattle.std.specs.Prelude.{slice_get}
use Rattle.tm_unroll.specs.declared.node.Lut.{Lut}
use Rattle.tm_unroll.specs.Mappings.{table_of, tables_of}
use Rattle.tm_unroll.specs.declared.node.MappingFault.{MappingFault}
use Rattle.tm_unroll.specs.Faults.{IsFirstFault}
use Rattle.tm_unroll.specs.Lookups.{IsTableJudged}
use Rattle.tm_unroll.proofs.VerdictLemmas.{table_fails, table_passes, places_few, outputs_at, all_lawful, output_fails, lags_named}
use Rattle.tm_unroll.proofs.lawfulness.lawful.Goals as goal

pub fault_at-requires : goal.fault_at-requires
fault_at-requires c =
    let within : c.loop-place.place < length c.args.mapping.now.luts.items = grind (arith, c.loop-place-test.true, c.len-place-end.ensures) in
    let few = places_few c.args.circuit.now c.signals.ensures.sound c.args.k c.args.d c.args.mapping.now.luts.items c.loop-place.place c.loop-place.invariant within in
    omega (arith, few)

pub returns-in-Some : goal.returns-in-Some
returns-in-Some c =
    let within : c.loop-place.place < length c.args.mapping.now.luts.items = grind (arith, c.loop-place-test.true, c.len-place-end.ensures) in
    let judged = subst (λ (l : List Lut). (t : Lut) → slice_get l c.loop-place.place ≡ Some t
    → IsTableJudged c.args.circuit.now c.args.k c.args.d (map table_of l) c.loop-place.place (table_of t) c.in_ok-why.field-0) c.deref-in-loop-place.ensures.value c.in_ok-why.ensures in
    subst (λ (f : MappingFault). IsFirstFault c.args.circuit.now c.args.k c.args.d (tables_of c.args.mapping.now) f) (sym c.fault_at.ensures)
    (inl (table_fails c.args.circuit.now c.args.k c.args.d c.args.mapping.now.luts.items c.loop-place.place c.in_ok-why.field-0 c.loop-place.invariant within judged c.in-Some.why c.in-Some.is))

pub loop-place-preserved : goal.loop-place-preserved
loop-place-preserved c =
    let within : c.loop-place.place < length c.args.mapping.now.luts.items = grind (arith, c.loop-place-test.true, c.len-place-end.ensures) in
    let judged = subst (λ (l : List Lut). (t : Lut) → slice_get l c.loop-place.place ≡ Some t
    → IsTableJudged c.args.circuit.now c.args.k c.args.d (map table_of l) c.loop-place.place (table_of t) c.in_ok-why.field-0) c.deref-in-loop-place.ensures.value c.in_ok-why.ensures in
    table_passes c.args.circuit.now c.args.k c.args.d c.args.mapping.now.luts.items c.loop-place.place c.in_ok-why.field-0 c.loop-place.invariant within judged c.in_default.is

pub returns-in-None : goal.returns-in-None
returns-in-None c =
    let past : length c.args.mapping.now.luts.items ≤ c.loop-place.place = grind (arith, c.loop-place-test.false, c.len-place-end.ensures) in
    let lags = lags_named c.signals.result (length c.args.circuit.now.drives) c.deref.result.now c.args.mapping.now.luts.items c.in_ok-lags.lags.items c.deref-2.result.now c.signals.ensures.count
    c.deref.ensures.value c.deref-2.ensures.value c.in_ok-lags.ensures in
    all_lawful c.args.circuit.now c.args.k c.args.d c.args.mapping.now.luts.items c.loop-place.place c.loop-place.invariant past (c.in-None.ensures (tables_of c.args.mapping.now) lags)

pub fault_at-requires-in-Some-first_missing : goal.fault_at-requires-in-Some-first_missing
fault_at-requires-in-Some-first_missing c =
    let lags = lags_named c.signals.result (length c.args.circuit.now.drives) c.deref.result.now c.args.mapping.now.luts.items c.in_ok-lags.lags.items c.deref-2.result.now c.signals.ensures.count
    c.deref.ensures.value c.deref-2.ensures.value c.in_ok-lags.ensures in
    let few = outputs_at c.args.circuit.now c.signals.ensures.sound (tables_of c.args.mapping.now) c.in-Some-first_missing.place
    (c.in-Some-first_missing.ensures (tables_of c.args.mapping.now) lags) in
    omega (arith, few)

pub returns : goal.returns
returns c =
    let past : length c.args.mapping.now.luts.items ≤ c.loop-place.place = grind (arith, c.loop-place-test.false, c.len-place-end.ensures) in
    let lags = lags_named c.signals.result (length c.args.circuit.now.drives) c.deref.result.now c.args.mapping.now.luts.items c.in_ok-lags.lags.items c.deref-2.result.now c.signals.ensures.count
    c.deref.ensures.value c.deref-2.ensures.value c.in_ok-lags.ensures in
    subst (λ (f : MappingFault). IsFirstFault c.args.circuit.now c.args.k c.args.d (tables_of c.args.mapping.now) f) (sym c.fault_at-in-Some-first_missing.ensures)
    (inr (output_fails c.args.circuit.now c.args.k c.args.d c.args.mapping.now.luts.items c.loop-place.place c.in-Some-first_missing.place c.loop-place.invariant past
    (c.in-Some-first_missing.ensures (tables_of c.args.mapping.now) lags)))
