use Rattle.std.proofs.Common.{sym, subst}
use Rattle.tm_circuit.specs.Plain.{Plain}
use Rattle.tm_circuit.specs.Build.{circuit_of}
use Rattle.tm_circuit.specs.Same.{IsSame}
use Rattle.tm_twins.specs.Joined.{IsAsLarge}
use Rattle.tm_prime.specs.Covers.{HasSamePeriod}
use Rattle.tm_prime.proofs.Soundness.{primed_large, primed_period}
use Rattle.tm_prime.proofs.Values.{rewritten}
use Rattle.tm_prime.proofs.covers.with_prime_covers.Goals as goal

pub unreachable-requires : goal.unreachable-requires
unreachable-requires c = c.in_default.not-NoMemory (c.in_ok-parts.ensures.lawful c.in-Err.fault c.in-Err.ensures)

pub returns-in-Ok-clause-same : goal.returns-in-Ok-clause-same
returns-in-Ok-clause-same c =
    let (is, sound) = c.in-Ok.ensures in
    subst (λ (p : Plain). IsSame c.args.circuit.now p) (sym is)
    (c.gates_of_equal_values.ensures c.args.circuit.now (circuit_of c.in_ok-parts.parts) sound (rewritten c.args.circuit.now (circuit_of c.in_ok-parts.parts) c.in_ok-parts.ensures.primed))

pub returns-in-Ok-clause-period : goal.returns-in-Ok-clause-period
returns-in-Ok-clause-period c =
    subst (λ (p : Plain). HasSamePeriod c.args.circuit.now p) (sym c.in-Ok.ensures.0)
    (primed_period c.args.circuit.now (circuit_of c.in_ok-parts.parts) c.in_ok-parts.ensures.primed)

pub returns-in-Ok-clause-large : goal.returns-in-Ok-clause-large
returns-in-Ok-clause-large c =
    subst (λ (p : Plain). IsAsLarge c.args.circuit.now p) (sym c.in-Ok.ensures.0)
    (primed_large c.args.circuit.now (circuit_of c.in_ok-parts.parts) c.in_ok-parts.ensures.primed)
