use Rattle.std.proofs.Common.{sym, subst}
use Rattle.tm_circuit.specs.Plain.{Plain}
use Rattle.tm_circuit.specs.Build.{circuit_of}
use Rattle.tm_circuit.specs.Same.{IsSame}
use Rattle.tm_twins.specs.Joined.{HasSameBits, IsAsLarge, HasSameSources, HasSameTwins, HasOwnTwins}
use Rattle.tm_twins.proofs.JoinedLemmas.{joined_bits, joined_same, joined_large, joined_sources, joined_twins, joined_own_twins}
use Rattle.tm_twins.proofs.join.joined.Goals as goal

pub unreachable-requires : goal.unreachable-requires
unreachable-requires c = c.in_default.not-NoMemory (c.in_ok-parts.ensures.lawful c.in-Err.fault c.in-Err.ensures)

pub returns-in-Ok-clause-bits : goal.returns-in-Ok-clause-bits
returns-in-Ok-clause-bits c =
    let (is, sound) = c.in-Ok.ensures in
    subst (λ (j : Plain). HasSameBits c.args.circuit.now j) (sym is) (joined_bits c.args.circuit.now (circuit_of c.in_ok-parts.parts) (c.one_trace.ensures (circuit_of c.in_ok-parts.parts) sound) c.in_ok-parts.ensures.joined)

pub returns-in-Ok-clause-same : goal.returns-in-Ok-clause-same
returns-in-Ok-clause-same c =
    let (is, sound) = c.in-Ok.ensures in
    subst (λ (j : Plain). IsSame c.args.circuit.now j) (sym is) (joined_same c.args.circuit.now (circuit_of c.in_ok-parts.parts) (c.same_by_trace.ensures c.args.circuit.now (circuit_of c.in_ok-parts.parts) sound) c.in_ok-parts.ensures.joined)

pub returns-in-Ok-clause-large : goal.returns-in-Ok-clause-large
returns-in-Ok-clause-large c =
    subst (λ (j : Plain). IsAsLarge c.args.circuit.now j) (sym c.in-Ok.ensures.0) (joined_large c.args.circuit.now (circuit_of c.in_ok-parts.parts) c.in_ok-parts.ensures.joined)

pub returns-in-Ok-clause-sources : goal.returns-in-Ok-clause-sources
returns-in-Ok-clause-sources c =
    subst (λ (j : Plain). HasSameSources c.args.circuit.now j) (sym c.in-Ok.ensures.0) (joined_sources c.args.circuit.now (circuit_of c.in_ok-parts.parts) c.in_ok-parts.ensures.joined)

pub returns-in-Ok-clause-twins : goal.returns-in-Ok-clause-twins
returns-in-Ok-clause-twins c =
    subst (λ (j : Plain). HasSameTwins c.args.circuit.now j) (sym c.in-Ok.ensures.0) (joined_twins c.args.circuit.now (circuit_of c.in_ok-parts.parts) c.in_ok-parts.ensures.joined)

pub returns-in-Ok-clause-own_twins : goal.returns-in-Ok-clause-own_twins
returns-in-Ok-clause-own_twins c =
    subst (λ (j : Plain). HasOwnTwins j) (sym c.in-Ok.ensures.0) (joined_own_twins c.args.circuit.now (circuit_of c.in_ok-parts.parts) c.in_ok-parts.ensures.joined)
