-- The last table of a lawful mapping is lawful.
use Rattle.std.proofs.Common.{◌≡◌, ◌-◌, List, length, Some, map, subst, rules}
use Rattle.std.specs.Prelude.{Contains, slice_get}
use Rattle.tm_circuit.specs.Plain.{Plain}
use Rattle.tm_circuit.proofs.ListLemmas.{contains-map}
use Rattle.tm_unroll.specs.declared.node.Lut.{Lut}
use Rattle.tm_unroll.specs.Mappings.{table_of, IsLawful, IsLawfulTable}
use Rattle.tm_unroll.proofs.ListLemmas.{contains-at}
use Rattle.tm_trial_mapper.proofs.functions.last_words.Goals as goal

lawful_at : (c : Plain) (luts slice : List Lut) (lut : Lut) → IsLawful c 8 1 (map table_of luts) → slice ≡ luts → slice_get slice (length slice - 1) ≡ Some lut
    → IsLawfulTable 0 c.drives 8 1 (map table_of luts) (table_of lut)
lawful_at c luts slice lut lawful same at =
    lawful.each (table_of lut) (contains-map table_of luts lut (subst (λ (l : List Lut). Contains l lut) same (contains-at slice (length slice - 1) lut at)))

pub table_of-requires-clause-gate : goal.table_of-requires-clause-gate
table_of-requires-clause-gate c =
    let at : slice_get c.deref.result.now (length c.deref.result.now - 1) ≡ Some c.in-Some.lut.now = search rules in
    (lawful_at c.args.circuit.now c.args.mapping.now.luts.items c.deref.result.now c.in-Some.lut.now c.requires c.deref.ensures.value at).gate

pub table_of-requires-clause-few : goal.table_of-requires-clause-few
table_of-requires-clause-few c =
    let at : slice_get c.deref.result.now (length c.deref.result.now - 1) ≡ Some c.in-Some.lut.now = search rules in
    (lawful_at c.args.circuit.now c.args.mapping.now.luts.items c.deref.result.now c.in-Some.lut.now c.requires c.deref.ensures.value at).leaves.few

pub table_of-requires-clause-covers : goal.table_of-requires-clause-covers
table_of-requires-clause-covers c =
    let at : slice_get c.deref.result.now (length c.deref.result.now - 1) ≡ Some c.in-Some.lut.now = search rules in
    (lawful_at c.args.circuit.now c.args.mapping.now.luts.items c.deref.result.now c.in-Some.lut.now c.requires c.deref.ensures.value at).covers
