use Rattle.std.proofs.Common.{ℕ, subst, inl, inr}
use Rattle.std.specs.Prelude.{Contains}
use Rattle.tm_absorb.proofs.TakeLemmas.{taken_cases, taken_end}
use Rattle.tm_absorb.proofs.queue.add_all.Goals as goal

pub loop-gate-preserved : goal.loop-gate-preserved
loop-gate-preserved c =
    let adds = c.in_ok-add.ensures in (
      λ g stands. adds.keeps g (c.loop-gate.invariant.0 g stands),
      λ g stands. elim (taken_cases c.args.gates.now c.loop-gate.gate-index c.gate-item.result g c.loop-gate-test.true c.gate-item.is stands) [
        | inl earlier ↦ adds.keeps g (c.loop-gate.invariant.1 g earlier)
        | inr same ↦ subst (λ b. Contains c.add.new.queue.keys b) same adds.has
      ],
    )

pub returns-clause-has : goal.returns-clause-has
returns-clause-has c g stands = c.loop-gate.invariant.1 g (taken_end c.args.gates.now c.loop-gate.gate-index g c.loop-gate-test.false stands)
