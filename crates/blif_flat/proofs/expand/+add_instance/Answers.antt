use Rattle.std.proofs.Common.{◌+◌, map, refl, arith}
use Rattle.blif_unit.specs.Unit.{telling_of, model_of}
use Rattle.blif_flat.specs.declared.around.Around.{Inside}
use Rattle.blif_flat.specs.Around.{context_of}
use Rattle.blif_flat.proofs.AroundLemmas.{context-Inside}
use Rattle.blif_flat.proofs.PartLemmas.{site_begins}
use Rattle.blif_flat.proofs.StepLemmas.{told_all, read_within, read_in, read_over, made_in, made_over, made_all}
use Rattle.blif_flat.proofs.expand.+add_instance.Goals as goal
use Rattle.blif_flat.proofs.expand.+add_instance.Goals.{in-Place+in_ok-add_instance, in_default+in_ok-add_statement}

pub loop-stated-init : goal.loop-stated-init
loop-stated-init t c = (refl, site_begins (map model_of c.args.units.now) c.args.model)

pub index-site-requires : goal.index-site-requires
index-site-requires t c =
    let within = read_within c.args.units.now c.args.sites.now c.args.model c.loop-stated.number c.loop-stated.stated-index c.index-units-model.result c.deref-stated-items.result.now
    c.stated-item.result c.in-Place.model c.in-Place.bindings c.index-sites-model.result c.requires.sites c.requires.shallow.is_model c.loop-stated.invariant.1
    c.index-units-model.is c.deref-stated-items.ensures.value c.loop-stated-test.true c.stated-item.is c.in-Place.is c.index-sites-model.is in
    omega (arith, within, c.index-sites-model.result.ok.0)

pub overflow_add-number : goal.overflow_add-number
overflow_add-number t c =
    let within = read_within c.args.units.now c.args.sites.now c.args.model c.loop-stated.number c.loop-stated.stated-index c.index-units-model.result c.deref-stated-items.result.now
    c.stated-item.result c.in-Place.model c.in-Place.bindings c.index-sites-model.result c.requires.sites c.requires.shallow.is_model c.loop-stated.invariant.1
    c.index-units-model.is c.deref-stated-items.ensures.value c.loop-stated-test.true c.stated-item.is c.in-Place.is c.index-sites-model.is in
    omega (arith, within, c.index-sites-model.result.ok.0, c.index-sites-model.result.ok.1, c.index-sites-model.result.small)

pub overflow_sub-levels : goal.overflow_sub-levels
overflow_sub-levels t c =
    let step = read_in c.args.units.now c.args.sites.now c.args.levels c.args.joiner.now c.args.top (context_of c.args.joiner.now c.args.around.now) c.args.model c.loop-stated.number
    c.loop-stated.stated-index c.index-units-model.result c.deref-stated-items.result.now c.stated-item.result
    c.in-Place.model c.in-Place.bindings c.index-sites-model.result c.index-site.result.now (context_of c.args.joiner.now
    (Inside c.args.around c.index-site.result (c.loop-stated.number + 1))) c.index-site.result.now.model c.requires.sites c.requires.shallow c.loop-stated.invariant.1
    c.index-units-model.is c.deref-stated-items.ensures.value c.loop-stated-test.true c.stated-item.is c.in-Place.is c.index-sites-model.is c.index-site.ensures
    (context-Inside c.args.joiner.now c.args.around c.index-site.result (c.loop-stated.number + 1)) refl in
    step.left

pub add_instance-requires : goal.add_instance-requires
add_instance-requires t c =
    let step = read_in c.args.units.now c.args.sites.now c.args.levels c.args.joiner.now c.args.top (context_of c.args.joiner.now c.args.around.now) c.args.model c.loop-stated.number
    c.loop-stated.stated-index c.index-units-model.result c.deref-stated-items.result.now c.stated-item.result
    c.in-Place.model c.in-Place.bindings c.index-sites-model.result c.index-site.result.now (context_of c.args.joiner.now
    (Inside c.args.around c.index-site.result (c.loop-stated.number + 1))) c.model.result c.requires.sites c.requires.shallow c.loop-stated.invariant.1
    c.index-units-model.is c.deref-stated-items.ensures.value c.loop-stated-test.true c.stated-item.is c.in-Place.is c.index-sites-model.is c.index-site.ensures
    (context-Inside c.args.joiner.now c.args.around c.index-site.result (c.loop-stated.number + 1)) c.model.ensures in
    (omega (arith, step.left, c.decreases), (c.requires.sites, step.shallow))

pub loop-stated-preserved : goal.loop-stated-preserved
loop-stated-preserved t c =
    elim c.match-stated.branch [
      | in-Place+in_ok-add_instance w ↦
          let step = read_in c.args.units.now c.args.sites.now c.args.levels c.args.joiner.now c.args.top (context_of c.args.joiner.now c.args.around.now) c.args.model
          c.loop-stated.number c.loop-stated.stated-index c.index-units-model.result c.deref-stated-items.result.now c.stated-item.result
          w.in-Place.model w.in-Place.bindings w.index-sites-model.result w.index-site.result.now (context_of c.args.joiner.now
          (Inside c.args.around w.index-site.result (c.loop-stated.number + 1))) w.model.result c.requires.sites c.requires.shallow c.loop-stated.invariant.1
          c.index-units-model.is c.deref-stated-items.ensures.value c.loop-stated-test.true c.stated-item.is w.in-Place.is w.index-sites-model.is w.index-site.ensures
          (context-Inside c.args.joiner.now c.args.around w.index-site.result (c.loop-stated.number + 1)) w.model.ensures in
          rw (w.out-is, w.number-is) (
            made_in c.args.levels (map model_of c.args.units.now) c.args.joiner.now c.args.top (context_of c.args.joiner.now c.args.around.now) c.args.model c.loop-stated.number
                c.loop-stated.stated-index (map telling_of c.args.out.now.items)
                (map telling_of c.loop-stated.out.items) (map telling_of w.add_instance.new.out.items)
                (context_of c.args.joiner.now (Inside c.args.around w.index-site.result (c.loop-stated.number + 1))) w.model.result step c.loop-stated.invariant.0
                w.in_ok-add_instance.ensures,
            step.next,
          )
      | in_default+in_ok-add_statement w ↦
          let step = read_over c.args.units.now c.args.levels c.args.joiner.now c.args.top (context_of c.args.joiner.now c.args.around.now) c.args.model c.loop-stated.number
          c.loop-stated.stated-index c.index-units-model.result c.deref-stated-items.result.now c.stated-item.result c.requires.shallow.is_model c.loop-stated.invariant.1
          c.index-units-model.is c.deref-stated-items.ensures.value c.loop-stated-test.true c.stated-item.is w.in_default.not-Place in
          rw (w.out-is, w.number-is) (
            made_over c.args.levels (map model_of c.args.units.now) c.args.joiner.now c.args.top (context_of c.args.joiner.now c.args.around.now) c.args.model c.loop-stated.number
                c.loop-stated.stated-index (map telling_of c.args.out.now.items)
                (map telling_of c.loop-stated.out.items) (map telling_of w.add_statement.new.out.items) (telling_of c.stated-item.result) step c.loop-stated.invariant.0
                w.in_ok-add_statement.ensures,
            step.next,
          )
    ]

pub returns : goal.returns
returns t c =
    let past = told_all c.args.units.now c.args.model c.loop-stated.stated-index c.index-units-model.result c.deref-stated-items.result.now c.requires.shallow.is_model c.index-units-model.is
    c.deref-stated-items.ensures.value c.loop-stated-test.false in
    made_all c.args.levels (map model_of c.args.units.now) c.args.joiner.now c.args.top (context_of c.args.joiner.now c.args.around.now) c.args.model c.loop-stated.number
    c.loop-stated.stated-index (map telling_of c.args.out.now.items) (map telling_of c.loop-stated.out.items) past
    c.loop-stated.invariant.0
