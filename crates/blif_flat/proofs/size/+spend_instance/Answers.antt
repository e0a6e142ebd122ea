use Rattle.std.proofs.Common.{◌+◌, ◌-◌, false, map, refl, arith}
use Rattle.std.proofs.lemmas.Result.{err_from_is_err_and}
use Rattle.blif_unit.specs.Unit.{told_of, telling_of, model_of}
use Rattle.blif_flat.specs.declared.around.Around.{Inside}
use Rattle.blif_flat.specs.Flat.{told_by}
use Rattle.blif_flat.specs.Around.{renamed, context_of}
use Rattle.blif_flat.specs.Size.{weight_of, weight_told}
use Rattle.blif_flat.specs.Plan.{flat_at}
use Rattle.blif_flat.proofs.AroundLemmas.{context-Inside}
use Rattle.blif_flat.proofs.PartLemmas.{site_begins}
use Rattle.blif_flat.proofs.SizeLemmas.{still_large}
use Rattle.blif_flat.proofs.StepLemmas.{told_all, read_within, read_in, read_over, paid_in, unpaid_in, paid_over, unpaid_over, paid_all}
use Rattle.blif_flat.proofs.size.+spend_instance.Goals as goal
use Rattle.blif_flat.proofs.size.+spend_instance.Goals.{in-Place+in_ok-left, in_default+in_ok-left-2}

pub loop-stated-init : goal.loop-stated-init
loop-stated-init t c = (refl, site_begins (map model_of c.args.units.now) c.args.model)

pub index-site-requires : goal.index-site-requires
index-site-requires t c =
    let within = read_within c.args.units.now c.args.sites.now c.args.model c.loop-stated.number c.loop-stated.stated-index c.index-units-model.result c.deref-stated-items.result.now
    c.stated-item.result c.in-Place.model c.in-Place.bindings c.index-sites-model.result c.requires.sites c.requires.shallow.is_model c.loop-stated.invariant.1
    c.index-units-model.is c.deref-stated-items.ensures.value c.loop-stated-test.true c.stated-item.is c.in-Place.is c.index-sites-model.is in
    omega (arith, within, c.index-sites-model.result.ok.0)

pub overflow_add-number : goal.overflow_add-number
overflow_add-number t c =
    let within = read_within c.args.units.now c.args.sites.now c.args.model c.loop-stated.number c.loop-stated.stated-index c.index-units-model.result c.deref-stated-items.result.now
    c.stated-item.result c.in-Place.model c.in-Place.bindings c.index-sites-model.result c.requires.sites c.requires.shallow.is_model c.loop-stated.invariant.1
    c.index-units-model.is c.deref-stated-items.ensures.value c.loop-stated-test.true c.stated-item.is c.in-Place.is c.index-sites-model.is in
    omega (arith, within, c.index-sites-model.result.ok.0, c.index-sites-model.result.ok.1, c.index-sites-model.result.small)

pub overflow_sub-levels : goal.overflow_sub-levels
overflow_sub-levels t c =
    let step = read_in c.args.units.now c.args.sites.now c.args.levels c.args.joiner.now c.args.top (context_of c.args.joiner.now c.args.around.now) c.args.model c.loop-stated.number
    c.loop-stated.stated-index c.index-units-model.result c.deref-stated-items.result.now c.stated-item.result
    c.in-Place.model c.in-Place.bindings c.index-sites-model.result c.index-site.result.now (context_of c.args.joiner.now
    (Inside c.args.around c.index-site.result (c.loop-stated.number + 1))) c.index-site.result.now.model c.requires.sites c.requires.shallow c.loop-stated.invariant.1
    c.index-units-model.is c.deref-stated-items.ensures.value c.loop-stated-test.true c.stated-item.is c.in-Place.is c.index-sites-model.is c.index-site.ensures
    (context-Inside c.args.joiner.now c.args.around c.index-site.result (c.loop-stated.number + 1)) refl in
    step.left

pub spend_instance-requires : goal.spend_instance-requires
spend_instance-requires t c =
    let step = read_in c.args.units.now c.args.sites.now c.args.levels c.args.joiner.now c.args.top (context_of c.args.joiner.now c.args.around.now) c.args.model c.loop-stated.number
    c.loop-stated.stated-index c.index-units-model.result c.deref-stated-items.result.now c.stated-item.result
    c.in-Place.model c.in-Place.bindings c.index-sites-model.result c.index-site.result.now (context_of c.args.joiner.now
    (Inside c.args.around c.index-site.result (c.loop-stated.number + 1))) c.model.result c.requires.sites c.requires.shallow c.loop-stated.invariant.1
    c.index-units-model.is c.deref-stated-items.ensures.value c.loop-stated-test.true c.stated-item.is c.in-Place.is c.index-sites-model.is c.index-site.ensures
    (context-Inside c.args.joiner.now c.args.around c.index-site.result (c.loop-stated.number + 1)) c.model.ensures in
    (omega (arith, step.left, c.decreases), (c.requires.sites, step.shallow))

pub returns-in_err-left : goal.returns-in_err-left
returns-in_err-left t c =
    let step = read_in c.args.units.now c.args.sites.now c.args.levels c.args.joiner.now c.args.top (context_of c.args.joiner.now c.args.around.now) c.args.model c.loop-stated.number
    c.loop-stated.stated-index c.index-units-model.result c.deref-stated-items.result.now c.stated-item.result
    c.in-Place.model c.in-Place.bindings c.index-sites-model.result c.index-site.result.now (context_of c.args.joiner.now
    (Inside c.args.around c.index-site.result (c.loop-stated.number + 1))) c.model.result c.requires.sites c.requires.shallow c.loop-stated.invariant.1
    c.index-units-model.is c.deref-stated-items.ensures.value c.loop-stated-test.true c.stated-item.is c.in-Place.is c.index-sites-model.is c.index-site.ensures
    (context-Inside c.args.joiner.now c.args.around c.index-site.result (c.loop-stated.number + 1)) c.model.ensures in
    let p = err_from_is_err_and c.from_residual.result c.from_residual.ensures.1 in
    rw (p.1, p.2) (still_large _ c.loop-stated.left c.args.room
    (weight_of (flat_at (c.args.levels - 1) (map model_of c.args.units.now) c.args.joiner.now false (context_of c.args.joiner.now
    (Inside c.args.around c.index-site.result (c.loop-stated.number + 1))) c.model.result))
    (weight_of (flat_at c.args.levels (map model_of c.args.units.now) c.args.joiner.now c.args.top (context_of c.args.joiner.now c.args.around.now) c.args.model)) c.in_err-left.ensures
    (λ less. unpaid_in c.args.levels (map model_of c.args.units.now) c.args.joiner.now c.args.top (context_of c.args.joiner.now c.args.around.now) c.args.model c.loop-stated.number
    c.loop-stated.stated-index c.args.room c.loop-stated.left
    (context_of c.args.joiner.now (Inside c.args.around c.index-site.result (c.loop-stated.number + 1))) c.model.result step c.loop-stated.invariant.0 less))

pub returns-in_err-left-2 : goal.returns-in_err-left-2
returns-in_err-left-2 t c =
    let step = read_over c.args.units.now c.args.levels c.args.joiner.now c.args.top (context_of c.args.joiner.now c.args.around.now) c.args.model c.loop-stated.number
    c.loop-stated.stated-index c.index-units-model.result c.deref-stated-items.result.now c.stated-item.result c.requires.shallow.is_model c.loop-stated.invariant.1
    c.index-units-model.is c.deref-stated-items.ensures.value c.loop-stated-test.true c.stated-item.is c.in_default.not-Place in
    let p = err_from_is_err_and c.from_residual-in_err-left-2.result c.from_residual-in_err-left-2.ensures.1 in
    rw (p.1, p.2) (still_large _ c.loop-stated.left c.args.room
    (weight_told (told_by c.args.top (renamed (context_of c.args.joiner.now c.args.around.now)) (told_of c.stated-item.result.what)))
    (weight_of (flat_at c.args.levels (map model_of c.args.units.now) c.args.joiner.now c.args.top (context_of c.args.joiner.now c.args.around.now) c.args.model)) c.in_err-left-2.ensures
    (λ less. unpaid_over c.args.levels (map model_of c.args.units.now) c.args.joiner.now c.args.top (context_of c.args.joiner.now c.args.around.now) c.args.model c.loop-stated.number
    c.loop-stated.stated-index c.args.room c.loop-stated.left
    (telling_of c.stated-item.result) step c.loop-stated.invariant.0 less))

pub loop-stated-preserved : goal.loop-stated-preserved
loop-stated-preserved t c =
    elim c.match-stated.branch [
      | in-Place+in_ok-left w ↦
          let step = read_in c.args.units.now c.args.sites.now c.args.levels c.args.joiner.now c.args.top (context_of c.args.joiner.now c.args.around.now) c.args.model
          c.loop-stated.number c.loop-stated.stated-index c.index-units-model.result c.deref-stated-items.result.now c.stated-item.result
          w.in-Place.model w.in-Place.bindings w.index-sites-model.result w.index-site.result.now (context_of c.args.joiner.now
          (Inside c.args.around w.index-site.result (c.loop-stated.number + 1))) w.model.result c.requires.sites c.requires.shallow c.loop-stated.invariant.1
          c.index-units-model.is c.deref-stated-items.ensures.value c.loop-stated-test.true c.stated-item.is w.in-Place.is w.index-sites-model.is w.index-site.ensures
          (context-Inside c.args.joiner.now c.args.around w.index-site.result (c.loop-stated.number + 1)) w.model.ensures in
          rw (w.left-is, w.number-is) (
            paid_in c.args.levels (map model_of c.args.units.now) c.args.joiner.now c.args.top (context_of c.args.joiner.now c.args.around.now) c.args.model c.loop-stated.number
                c.loop-stated.stated-index c.args.room c.loop-stated.left
                w.in_ok-left.left (context_of c.args.joiner.now (Inside c.args.around w.index-site.result (c.loop-stated.number + 1))) w.model.result step c.loop-stated.invariant.0
                w.in_ok-left.ensures,
            step.next,
          )
      | in_default+in_ok-left-2 w ↦
          let step = read_over c.args.units.now c.args.levels c.args.joiner.now c.args.top (context_of c.args.joiner.now c.args.around.now) c.args.model c.loop-stated.number
          c.loop-stated.stated-index c.index-units-model.result c.deref-stated-items.result.now c.stated-item.result c.requires.shallow.is_model c.loop-stated.invariant.1
          c.index-units-model.is c.deref-stated-items.ensures.value c.loop-stated-test.true c.stated-item.is w.in_default.not-Place in
          rw (w.left-is, w.number-is) (
            paid_over c.args.levels (map model_of c.args.units.now) c.args.joiner.now c.args.top (context_of c.args.joiner.now c.args.around.now) c.args.model c.loop-stated.number
                c.loop-stated.stated-index c.args.room c.loop-stated.left
                w.in_ok-left-2.left (telling_of c.stated-item.result) step c.loop-stated.invariant.0 w.in_ok-left-2.ensures,
            step.next,
          )
    ]

pub returns : goal.returns
returns t c =
    let past = told_all c.args.units.now c.args.model c.loop-stated.stated-index c.index-units-model.result c.deref-stated-items.result.now c.requires.shallow.is_model c.index-units-model.is
    c.deref-stated-items.ensures.value c.loop-stated-test.false in
    paid_all c.args.levels (map model_of c.args.units.now) c.args.joiner.now c.args.top (context_of c.args.joiner.now c.args.around.now) c.args.model c.loop-stated.number
    c.loop-stated.stated-index c.args.room c.loop-stated.left past c.loop-stated.invariant.0
