-- the laws of mapped circuits
use Rattle.std.proofs.Common.{◌≡◌, ◌≤◌, ℕ, List, map, sym, subst}
use Rattle.std.specs.Prelude.{◌↔◌}
use Rattle.tm_circuit.specs.Plain.{Plain, widest}
use Rattle.tm_circuit.specs.Chain.{IsPeriod}
use Rattle.tm_circuit.specs.Same.{IsSame}
use Rattle.tm_circuit.specs.Build.{circuit_of}
use Rattle.tm_parts.specs.Names.{HasNamesWithin}
use Rattle.tm_unroll.specs.declared.node.Lut.{Lut}
use Rattle.tm_unroll.specs.Mappings.{table_of, tables_of}
use Rattle.tm_unroll.specs.Chains.{IsPeriodOf}
use Rattle.tm_mapped.specs.Mapped.{IsMapped}
use Rattle.tm_net.proofs.net.mapped.Goals as goal

-- The mapped circuit of the same tables.
of_same : (c m : Plain) (luts others : List Lut) → luts ≡ others → IsMapped c (map table_of luts) m → IsMapped c (map table_of others) m
of_same c m luts others same is = subst (λ (ls : List Lut). IsMapped c (map table_of ls) m) same is

pub unreachable-requires : goal.unreachable-requires
unreachable-requires c =
    let m = circuit_of c.in_ok-parts.parts in
    let is = of_same c.args.circuit.now m c.as_slice.result.now c.args.mapping.now.luts.items c.as_slice.ensures.value c.in_ok-parts.ensures in
    c.in_default.not-NoMemory (c.refused_for_memory_alone.ensures.build c.args.circuit.now c.args.k c.args.d (tables_of c.args.mapping.now) m c.signals-sound.ensures.sound c.requires.fits
    c.requires.few.1 c.requires.near c.requires.lawful is c.in-Err.fault c.in-Err.ensures)

pub returns-in-Ok-clause-same : goal.returns-in-Ok-clause-same
returns-in-Ok-clause-same c =
    let m = circuit_of c.in_ok-parts.parts in
    let (same, sound) = c.in-Ok.ensures in
    let is = of_same c.args.circuit.now m c.as_slice.result.now c.args.mapping.now.luts.items c.as_slice.ensures.value c.in_ok-parts.ensures in
    let by = c.single_rows_have_values.ensures c.args.circuit.now (tables_of c.args.mapping.now) m is in
    subst (λ (o : Plain). IsSame c.args.circuit.now o) (sym same)
    (c.mapped_is_same.ensures c.args.circuit.now c.args.k c.args.d (tables_of c.args.mapping.now) m c.signals-sound.ensures.sound sound c.requires.lawful by)

pub returns-in-Ok-clause-period : goal.returns-in-Ok-clause-period
returns-in-Ok-clause-period c =
    let m = circuit_of c.in_ok-parts.parts in
    let is = of_same c.args.circuit.now m c.as_slice.result.now c.args.mapping.now.luts.items c.as_slice.ensures.value c.in_ok-parts.ensures in
    let by = c.single_rows_have_values.ensures c.args.circuit.now (tables_of c.args.mapping.now) m is in
    subst (λ (o : Plain). (p : ℕ) → IsPeriodOf (tables_of c.args.mapping.now) p ↔ IsPeriod o p) (sym c.in-Ok.ensures.0)
    (λ p. c.mapped_has_period.ensures c.args.circuit.now (tables_of c.args.mapping.now) m p by)

pub returns-in-Ok-clause-narrow : goal.returns-in-Ok-clause-narrow
returns-in-Ok-clause-narrow c =
    let m = circuit_of c.in_ok-parts.parts in
    let is = of_same c.args.circuit.now m c.as_slice.result.now c.args.mapping.now.luts.items c.as_slice.ensures.value c.in_ok-parts.ensures in
    let by = c.single_rows_have_values.ensures c.args.circuit.now (tables_of c.args.mapping.now) m is in
    subst (λ (o : Plain). widest o.drives ≤ c.args.k) (sym c.in-Ok.ensures.0)
    (c.mapped_is_narrow.ensures c.args.circuit.now c.args.k c.args.d (tables_of c.args.mapping.now) m c.requires.lawful by)

pub returns-in-Ok-clause-names : goal.returns-in-Ok-clause-names
returns-in-Ok-clause-names c =
    let m = circuit_of c.in_ok-parts.parts in
    let is = of_same c.args.circuit.now m c.as_slice.result.now c.args.mapping.now.luts.items c.as_slice.ensures.value c.in_ok-parts.ensures in
    subst (λ (o : Plain). HasNamesWithin 774 o) (sym c.in-Ok.ensures.0)
    (c.refused_for_memory_alone.ensures.names c.args.circuit.now c.args.k c.args.d (tables_of c.args.mapping.now) m c.signals-sound.ensures.sound c.requires.fits
    c.requires.few.1 c.requires.near c.requires.lawful is)
