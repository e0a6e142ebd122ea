-- Each model adds its sites, or has the first fault.
use Rattle.std.proofs.Common.{◌≡◌, List, Some, [], Vec, Global, map, flat_map, filter_map, subst}
use Rattle.std.specs.Prelude.{slice_get}
use Rattle.std.proofs.lemmas.List.{take_all}
use Rattle.std.proofs.lemmas.Result.{err_from_is_err_and}
use Rattle.blif_unit.specs.declared.unit.Unit.{Unit as ModelUnit}
use Rattle.blif_unit.specs.Fault.{OnText}
use Rattle.blif_unit.specs.Unit.{Model, model_of}
use Rattle.blif_flat.specs.Places.{fault_in_telling}
use Rattle.blif_flat.specs.Sites.{Sited, sites_in}
use Rattle.blif_flat.proofs.LineLemmas.{sites_more, faults_more, first_of_models, on_text}
use Rattle.blif_flat.proofs.sites.all_sites.Goals as goal

pub loop-unit-preserved : goal.loop-unit-preserved
loop-unit-preserved c =
    let own = subst (λ (us : List ModelUnit). (c.in_ok-sites.field-0.items ≡ sites_in (map model_of us) (model_of c.unit-item.result).body)
    × (filter_map (fault_in_telling (map model_of us)) (model_of c.unit-item.result).body ≡ [])) c.in_ok-models.ensures.units c.in_ok-sites.ensures.sites in (
      sites_more (map model_of c.args.units.now) c.args.units.now c.loop-unit.unit-index c.unit-item.result c.loop-unit.all.items c.push.new.self.items c.in_ok-sites.field-0 c.loop-unit-test.true
          c.unit-item.is own.0 c.loop-unit.invariant.0 c.in_ok-push.ensures.items,
      faults_more (fault_in_telling (map model_of c.args.units.now)) c.args.units.now c.loop-unit.unit-index c.unit-item.result c.loop-unit-test.true c.unit-item.is c.loop-unit.invariant.1 own.1,
    )

pub returns : goal.returns
returns c = record {
  sites = subst (λ (us : List ModelUnit). (map (λ (s : Vec Sited Global). s.items) c.loop-unit.all.items ≡ map (λ (m : Model). sites_in (map model_of c.args.units.now) m.body) (map model_of us))
      × (filter_map (fault_in_telling (map model_of c.args.units.now)) (flat_map (λ (m : Model). m.body) (map model_of us)) ≡ []))
      (take_all c.loop-unit.unit-index c.args.units.now c.loop-unit-test.false) c.loop-unit.invariant;
  fault = tt;
}

pub returns-in_err-sites-clause-fault : goal.returns-in_err-sites-clause-fault
returns-in_err-sites-clause-fault c =
    let own = subst (λ (us : List ModelUnit). OnText c.in_err-sites.field-0.0
    (λ fault. slice_get (filter_map (fault_in_telling (map model_of us)) (model_of c.unit-item.result).body) 0 ≡ Some fault)) c.in_ok-models.ensures.units c.in_err-sites.ensures.fault in
    let p = err_from_is_err_and c.from_residual-in_err-sites.result c.from_residual-in_err-sites.ensures.1 in
    rw (p.1, p.2) (on_text c.in_err-sites.field-0.0
    (λ fault. slice_get (filter_map (fault_in_telling (map model_of c.args.units.now)) (model_of c.unit-item.result).body) 0 ≡ Some fault)
    (λ fault. slice_get (filter_map (fault_in_telling (map model_of c.args.units.now)) (flat_map (λ (m : Model). m.body) (map model_of c.args.units.now))) 0 ≡ Some fault)
    (λ fault h. first_of_models (fault_in_telling (map model_of c.args.units.now)) c.args.units.now c.loop-unit.unit-index c.unit-item.result fault c.loop-unit-test.true c.unit-item.is
    c.loop-unit.invariant.1 h) own)
