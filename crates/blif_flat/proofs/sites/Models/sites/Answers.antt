-- Each statement adds its site, or is the first that has a fault.
use Rattle.std.proofs.Common.{◌≡◌, ◌∙◌, ◌+◌, ◌<◌, ◌≤◌, List, Some, [], Vec, Global, map, filter_map, length, take, get_or, sym, ap, subst}
use Rattle.std.specs.Prelude.{slice_get, option_map}
use Rattle.std.proofs.lemmas.List.{take_all}
use Rattle.std.proofs.lemmas.Result.{err_from_is_err_and}
use Rattle.blif_unit.specs.declared.fault.BlifKind.{BlifKind}
use Rattle.blif_unit.specs.declared.unit.Binding.{Binding}
use Rattle.blif_unit.specs.declared.unit.Stated.{Stated}
use Rattle.blif_unit.specs.Unit.{told_of, telling_of, model_of, place}
use Rattle.blif_flat.specs.Places.{fault_in_told, fault_in_telling}
use Rattle.blif_flat.specs.Sites.{Sited, sites_in}
use Rattle.blif_flat.proofs.LineLemmas.{sited_more, unsited_more, unplaced, fault_of_line, on_text}
use Rattle.blif_flat.proofs.sites.Models.sites.Goals.{in-Place+in_ok-site+in_ok-push, in_default}
use Rattle.blif_flat.proofs.sites.Models.sites.Goals as goal

pub loop-stated-preserved : goal.loop-stated-preserved
loop-stated-preserved c =
    let item : Stated = c.stated-item.result in
    let within : c.loop-stated.stated-index < length c.args.unit.now.body.items = subst (λ (xs : List Stated). c.loop-stated.stated-index < length xs) c.deref-stated-items.ensures.value c.loop-stated-test.true in
    let is : item ≡ get_or c.args.unit.now.body.items c.loop-stated.stated-index item =
    subst (λ (xs : List Stated). item ≡ get_or xs c.loop-stated.stated-index item) c.deref-stated-items.ensures.value c.stated-item.is in
    elim c.match-stated.branch [
      | in-Place+in_ok-site+in_ok-push w ↦
          subst (λ (made : Vec Sited Global). (made.items ≡ sites_in (map model_of c.args.self.now.units.now) (map telling_of (take (c.loop-stated.stated-index + 1) c.args.unit.now.body.items)))
          × (filter_map (fault_in_telling (map model_of c.args.self.now.units.now)) (map telling_of (take (c.loop-stated.stated-index + 1) c.args.unit.now.body.items)) ≡ [])) (sym w.sites-is)
          (sited_more (map model_of c.args.self.now.units.now) c.args.unit.now.body.items c.loop-stated.stated-index item w.in-Place.model w.deref.result.now w.in_ok-site.field-0
          c.loop-stated.sites.items w.push.new.self.items within is (ap told_of w.in-Place.is ∙ ap (λ (b : List Binding). place w.in-Place.model b) (sym w.deref.ensures.value)) w.in_ok-site.ensures.site
          c.loop-stated.invariant w.in_ok-push.ensures.items)
      | in_default w ↦
          let none = unplaced (map model_of c.args.self.now.units.now) c.stated-item.result.what w.in_default.not-Place in
          subst (λ (made : Vec Sited Global). (made.items ≡ sites_in (map model_of c.args.self.now.units.now) (map telling_of (take (c.loop-stated.stated-index + 1) c.args.unit.now.body.items)))
          × (filter_map (fault_in_telling (map model_of c.args.self.now.units.now)) (map telling_of (take (c.loop-stated.stated-index + 1) c.args.unit.now.body.items)) ≡ [])) (sym w.sites-is)
          (unsited_more (map model_of c.args.self.now.units.now) c.args.unit.now.body.items c.loop-stated.stated-index item c.loop-stated.sites.items within is none.0 none.1 c.loop-stated.invariant)
    ]

pub returns : goal.returns
returns c =
    let all : length c.args.unit.now.body.items ≤ c.loop-stated.stated-index = subst (λ (xs : List Stated). length xs ≤ c.loop-stated.stated-index) c.deref-stated-items.ensures.value c.loop-stated-test.false in
    record {
      sites = subst (λ (xs : List Stated). (c.loop-stated.sites.items ≡ sites_in (map model_of c.args.self.now.units.now) (map telling_of xs))
          × (filter_map (fault_in_telling (map model_of c.args.self.now.units.now)) (map telling_of xs) ≡ [])) (take_all c.loop-stated.stated-index c.args.unit.now.body.items all) c.loop-stated.invariant;
      fault = tt;
    }

pub returns-in_err-site-clause-fault : goal.returns-in_err-site-clause-fault
returns-in_err-site-clause-fault c =
    let item : Stated = c.stated-item.result in
    let within : c.loop-stated.stated-index < length c.args.unit.now.body.items = subst (λ (xs : List Stated). c.loop-stated.stated-index < length xs) c.deref-stated-items.ensures.value c.loop-stated-test.true in
    let is : item ≡ get_or c.args.unit.now.body.items c.loop-stated.stated-index item =
    subst (λ (xs : List Stated). item ≡ get_or xs c.loop-stated.stated-index item) c.deref-stated-items.ensures.value c.stated-item.is in
    let p = err_from_is_err_and c.from_residual.result c.from_residual.ensures.1 in
    rw (p.1, p.2) (on_text c.in_err-site.field-0.0
    (λ fault. option_map (λ (kind : BlifKind). (c.stated-item.result.line, kind)) (fault_in_told (map model_of c.args.self.now.units.now) (place c.in-Place.model c.deref.result.now)) ≡ Some fault)
    (λ fault. slice_get (filter_map (fault_in_telling (map model_of c.args.self.now.units.now)) (map telling_of c.args.unit.now.body.items)) 0 ≡ Some fault)
    (λ fault h. fault_of_line (map model_of c.args.self.now.units.now) c.args.unit.now.body.items c.loop-stated.stated-index item c.in-Place.model c.deref.result.now fault within is
    c.loop-stated.invariant.1 (ap told_of c.in-Place.is ∙ ap (λ (b : List Binding). place c.in-Place.model b) (sym c.deref.ensures.value)) h) c.in_err-site.ensures.fault)
