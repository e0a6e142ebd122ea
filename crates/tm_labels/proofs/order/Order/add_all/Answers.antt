-- One gate more.
use Rattle.std.proofs.Common.{◌∙◌}
use Rattle.std.specs.Prelude.{Contains}
use Rattle.tm_unroll.proofs.EachLemmas.{each-more, each-all}
use Rattle.tm_labels.specs.Orders.{places_in}
use Rattle.tm_labels.proofs.order.Order.add_all.Goals as goal

pub loop-gate-preserved : goal.loop-gate-preserved
loop-gate-preserved c =
    let before = c.loop-gate.invariant in
    let more = c.in_ok-add.ensures in
    record {
      adds = record {
        stays = λ g there. more.adds.stays g (before.adds.stays g there);
        ways = record {
          foreseen = more.adds.ways.foreseen ∙ before.adds.ways.foreseen;
          towards = more.adds.ways.towards ∙ before.adds.ways.towards;
          ahead = more.adds.ways.ahead ∙ before.adds.ways.ahead;
        };
      };
      have = each-more (λ g. Contains (places_in c.add.new.self) g) c.args.gates.now c.loop-gate.gate-index c.gate-item.result (λ g there. more.adds.stays g (before.have g there)) c.loop-gate-test.true c.gate-item.is
          more.has;
    }

pub returns-clause-have : goal.returns-clause-have
returns-clause-have c =
    each-all (λ g. Contains (places_in c.loop-gate.self) g) c.args.gates.now c.loop-gate.gate-index c.loop-gate.invariant.have c.loop-gate-test.false
