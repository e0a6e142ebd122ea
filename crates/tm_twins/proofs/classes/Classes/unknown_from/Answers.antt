use Rattle.std.proofs.Common.{◌<◌, inl, inr, reverse, refl, sym, subst, arith, ⊎_elim}
use Rattle.tm_twins.specs.Classes.{IsFed, IsKnown, IsTrail}
use Rattle.tm_twins.proofs.Steps.{steps, steps_fall}
use Rattle.tm_twins.proofs.ClassLemmas.{unknown_fed, read_known, way_more}
use Rattle.tm_twins.proofs.classes.Classes.unknown_from.Goals as goal

pub loop-at-init : goal.loop-at-init
loop-at-init c = record {
  trail = subst (λ xs. IsTrail c.args.circuit.now.drives c.args.from (reverse xs)) (sym c.new-path.ensures.items) tt;
  within = c.requires.from;
  begun = inl refl;
}

pub index-requires : goal.index-requires
index-requires c = omega (arith, c.at.view_is, c.loop-at.invariant.within, c.requires.gathers.known_sized)

pub one_step_back-at-requires : goal.one_step_back-at-requires
one_step_back-at-requires c = c.loop-at.invariant.within

pub loop-at-smaller : goal.loop-at-smaller
loop-at-smaller c =
    let fed : IsFed c.args.circuit.now.drives c.loop-at.at =
    unknown_fed c.args.circuit.now.drives c.args.self.now.known.items c.args.self.now.heads.items c.args.self.now.firsts.items _ c.loop-at.at c.index.result.now
    c.requires.gathers c.loop-at.invariant.within c.at.view_is c.index.ensures c.loop-at-test.true in
    subst (λ n. steps c.args.circuit.now.drives n < steps c.args.circuit.now.drives c.loop-at.at) (sym c.one_step_back-at.ensures)
    (steps_fall c.args.circuit.now.drives c.loop-at.at fed)

pub loop-at-preserved : goal.loop-at-preserved
loop-at-preserved c =
    let fed : IsFed c.args.circuit.now.drives c.loop-at.at =
    unknown_fed c.args.circuit.now.drives c.args.self.now.known.items c.args.self.now.heads.items c.args.self.now.firsts.items _ c.loop-at.at c.index.result.now
    c.requires.gathers c.loop-at.invariant.within c.at.view_is c.index.ensures c.loop-at-test.true in
    way_more c.args.circuit.now.drives c.loop-at.path.items c.push.new.self.items c.loop-at.at c.one_step_back-at.result c.args.from
    c.loop-at.invariant fed c.in_ok-push.ensures.items c.one_step_back-at.ensures

pub returns-clause-home : goal.returns-clause-home
returns-clause-home c = (
  c.loop-at.at,
  read_known c.args.circuit.now.drives c.args.self.now.known.items c.args.self.now.heads.items c.args.self.now.firsts.items _ c.loop-at.at c.index.result.now
      c.requires.gathers c.loop-at.invariant.within c.at.view_is c.index.ensures c.loop-at-test.false,
  c.loop-at.invariant.trail,
)

pub returns-clause-from : goal.returns-clause-from
returns-clause-from c =
    let is_known : IsKnown c.args.self.now c.loop-at.at = read_known c.args.circuit.now.drives c.args.self.now.known.items c.args.self.now.heads.items c.args.self.now.firsts.items _ c.loop-at.at c.index.result.now
    c.requires.gathers c.loop-at.invariant.within c.at.view_is c.index.ensures c.loop-at-test.false in
    ⊎_elim (λ here. inl (subst (λ x. IsKnown c.args.self.now x) here is_known)) (λ before. inr before) c.loop-at.invariant.begun
