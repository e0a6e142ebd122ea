use Rattle.std.proofs.Common.{◌≡◌, inr, length, arith}
use Rattle.tm_twins.proofs.ClassLemmas.{placing_leads, placing_more, placing_done}
use Rattle.tm_twins.proofs.classes.Classes.place_all.Goals as goal

pub loop-latch-init : goal.loop-latch-init
loop-latch-init c = record {
  gathers = c.requires.gathers;
  home = c.requires.home;
  stay = λ s is. is;
  each = λ s among. inr among;
}

pub place-requires-clause-leads : goal.place-requires-clause-leads
place-requires-clause-leads c =
    placing_leads c.args.circuit.now.drives c.loop-latch.self c.loop-latch.left.items c.pop.new.self.items c.in-Some.latch c.loop-latch.invariant.home c.in-Some.ensures.items

pub loop-latch-preserved : goal.loop-latch-preserved
loop-latch-preserved c =
    placing_more c.args.circuit.now.drives c.args.self.now c.loop-latch.self c.place.new.self c.args.path.items c.loop-latch.left.items c.pop.new.self.items c.in-Some.latch
    c.loop-latch.invariant c.in-Some.ensures.items c.place.ensures.gathers c.place.ensures.learns

pub returns-clause-learns : goal.returns-clause-learns
returns-clause-learns c =
    let none : length c.loop-latch.left.items ≡ 0 = omega (arith, c.in_default.ensures.cases.0, c.loop-latch.left.ok.0) in
    placing_done c.args.circuit.now.drives c.args.self.now c.loop-latch.self c.args.path.items c.loop-latch.left.items c.loop-latch.invariant none
