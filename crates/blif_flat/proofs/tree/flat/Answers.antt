-- The sites of models without a fault serve each further step.
use Rattle.std.proofs.lemmas.Result.{err_from_is_err_and}
use Rattle.blif_unit.specs.Unit.{model_of}
use Rattle.blif_flat.proofs.WholeLemmas.{plan_read, graph_fault, size_fault, is_shallow, whole_made}
use Rattle.blif_flat.proofs.tree.flat.Goals as goal

pub instances_of-requires-clause-graph : goal.instances_of-requires-clause-graph
instances_of-requires-clause-graph c =
    (plan_read c.args.units.now c.in_ok-sites.sites.items c.deref.result.now c.deref.ensures.value c.in_ok-sites.ensures.sites).inside

pub returns-in_err-instances-clause-fault : goal.returns-in_err-instances-clause-fault
returns-in_err-instances-clause-fault c =
    let p = err_from_is_err_and c.from_residual-in_err-instances.result c.from_residual-in_err-instances.ensures.1 in
    rw (p.1, p.2) (graph_fault c.args.units.now c.in_ok-sites.sites.items c.deref.result.now c.deref.ensures.value c.in_ok-sites.ensures.sites c.in_err-instances.field-0.0 c.requires.distinct
    c.in_err-instances.ensures.fault)

pub check_size-requires-clause-sites : goal.check_size-requires-clause-sites
check_size-requires-clause-sites c = plan_read c.args.units.now c.in_ok-sites.sites.items c.deref-2.result.now c.deref-2.ensures.value c.in_ok-sites.ensures.sites

pub returns-in_err-check_size-clause-fault : goal.returns-in_err-check_size-clause-fault
returns-in_err-check_size-clause-fault c =
    let p = err_from_is_err_and c.from_residual-in_err-check_size.result c.from_residual-in_err-check_size.ensures.1 in
    rw (p.1, p.2) (size_fault c.args.units.now c.in_ok-sites.sites.items c.deref.result.now c.deref.ensures.value c.in_ok-sites.ensures.sites c.in_ok-instances.instances
    c.in_ok-instances.ensures.instances c.in_err-check_size.field-0.0 c.in_err-check_size.ensures.large)

pub flat_unit-requires-clause-sites : goal.flat_unit-requires-clause-sites
flat_unit-requires-clause-sites c = plan_read c.args.units.now c.in_ok-sites.sites.items c.deref-4.result.now c.deref-4.ensures.value c.in_ok-sites.ensures.sites

pub flat_unit-requires-clause-shallow : goal.flat_unit-requires-clause-shallow
flat_unit-requires-clause-shallow c =
    is_shallow c.args.units.now c.in_ok-sites.sites.items c.deref.result.now c.deref.ensures.value c.in_ok-sites.ensures.sites c.in_ok-instances.instances c.in_ok-instances.ensures.instances

pub returns-clause-flat : goal.returns-clause-flat
returns-clause-flat c =
    whole_made c.args.units.now c.in_ok-sites.sites.items c.deref.result.now c.deref.ensures.value c.in_ok-sites.ensures.sites c.in_ok-instances.instances c.in_ok-instances.ensures.instances
    (model_of c.in_ok-flat_unit.field-0) c.in_ok-check_size.ensures.small c.in_ok-flat_unit.ensures
