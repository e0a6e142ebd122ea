use Rattle.std.proofs.Common.{◌≤◌, length, arith}
use Rattle.tm_twins.proofs.ClassLemmas.{learned_more, learned_all}
use Rattle.tm_twins.proofs.classes.heads_of.Goals as goal

pub loop-s-init : goal.loop-s-init
loop-s-init c = record { gathers = c.in_ok-classes.ensures; known = λ s below. absurd (omega arith) }

pub learn-requires-clause-gathers : goal.learn-requires-clause-gathers
learn-requires-clause-gathers c = c.loop-s.invariant.gathers

pub loop-s-preserved : goal.loop-s-preserved
loop-s-preserved c =
    learned_more c.args.circuit.now.drives c.loop-s.classes c.learn.new.self c.loop-s.s c.loop-s.invariant c.in_ok-learn.ensures.gathers c.in_ok-learn.ensures.stay c.in_ok-learn.ensures.learned

pub returns : goal.returns
returns c =
    let all : length c.args.circuit.now.drives ≤ c.loop-s.s = omega (arith, c.loop-s-test.false, c.signals-s-end.ensures.count) in
    learned_all c.args.circuit.now.drives c.loop-s.classes c.loop-s.s c.loop-s.invariant all
